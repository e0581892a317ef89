use Rattle.lane_rows.proofs.VectorLemmas.{lanes-reduced}
use Rattle.lane_rows.proofs.vectors.reduced.Goals as goal

pub returns : goal.returns
returns c = lanes-reduced c.args.numbers c.args.modulus c.fits-numbers.0 c.requires.modulus c.requires.small c.requires.numbers
