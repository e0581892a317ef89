use Rattle.std.proofs.Common.{bit_xor}
use Rattle.lane_rows.proofs.VectorLemmas.{lanes-zip2}
use Rattle.lane_rows.proofs.vectors.differences.Goals as goal

pub returns : goal.returns
returns c = lanes-zip2 bit_xor c.args.left c.args.right c.fits-left.0 c.fits-right.0
