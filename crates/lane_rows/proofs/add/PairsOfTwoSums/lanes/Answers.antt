use Rattle.std.proofs.Common.{get_or}
use Rattle.lane_rows.specs.Lanes.{pair_sum}
use Rattle.lane_rows.proofs.VectorLemmas.{xor-pair_sum, lanes-same}
use Rattle.lane_rows.proofs.add.PairsOfTwoSums.lanes.Goals as goal

pub returns : goal.returns
returns c =
    lanes-same _ _ (λ k. pair_sum 2 (get_or c.args.left k 0) (get_or c.args.right k 0)) c.differences.ensures
    (λ k l. xor-pair_sum (get_or c.args.left k 0) (get_or c.args.right k 0) (c.requires.left k l) (c.requires.right k l))
