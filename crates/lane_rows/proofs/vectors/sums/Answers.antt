use Rattle.std.proofs.Common.{◌+◌, ◌%◌, ◌^◌, ◌<◌, get_or, arith}
use Rattle.lane_rows.proofs.VectorLemmas.{lanes-zip2, lanes-same}
use Rattle.lane_rows.proofs.vectors.sums.Goals as goal

pub returns : goal.returns
returns c =
    lanes-same _ _ (λ k. get_or c.args.left k 0 + get_or c.args.right k 0)
    (lanes-zip2 (λ a b. (a + b) % 2 ^ 8) c.args.left c.args.right c.fits-left.0 c.fits-right.0)
    (λ k l.
    let x : get_or c.args.left k 0 < 128 = c.requires.left k l in
    let y : get_or c.args.right k 0 < 128 = c.requires.right k l in
    omega arith)
