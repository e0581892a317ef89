use Rattle.std.proofs.Common.{refl}
use Rattle.lane_rows.specs.declared.add.TheConstants.{FIRST, SECOND, DIGIT, THREE_TIMES}
use Rattle.lane_rows.proofs.VectorLemmas.{lanes-three}
use Rattle.lane_rows.proofs.add.PairsOfThreeSums.lanes.Goals as goal

pub returns : goal.returns
returns c =
    lanes-three FIRST SECOND DIGIT THREE_TIMES c.args.left c.args.right c.digits.result c.digits-2.result c.digits-3.result c.digits-4.result c.sums-first.result c.sums-second.result c.digits-5.result c.digits-6.result c.sums.result
    refl c.requires.left c.requires.right c.digits.ensures c.digits-2.ensures c.sums-first.ensures c.digits-3.ensures c.digits-4.ensures c.sums-second.ensures c.digits-5.ensures c.digits-6.ensures c.sums.ensures
