use Rattle.lane_rows.proofs.VectorLemmas.{xor-pair_sum}
use Rattle.lane_rows.proofs.add.PairsOfTwoSums.one.Goals as goal

pub returns : goal.returns
returns c = xor-pair_sum c.args.left c.args.right c.requires.left c.requires.right
