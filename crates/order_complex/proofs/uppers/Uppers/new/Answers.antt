use Rattle.std.proofs.Common.{List, ℕ, length, ap, arith}
use Rattle.order_complex.proofs.FaceIds.{length-all_faces}
use Rattle.order_complex.proofs.ChainBounds.{faces-rising}
use Rattle.order_complex.proofs.uppers.Uppers.new.Goals as goal

pub cofaces_in-requires-clause-cells : goal.cofaces_in-requires-clause-cells
cofaces_in-requires-clause-cells c = faces-rising c.args.space.now c.in_ok-faces.faces c.len.result c.in_ok-faces.ensures.faces c.len.ensures

pub cofaces_in-requires-clause-few : goal.cofaces_in-requires-clause-few
cofaces_in-requires-clause-few c =
    omega (arith, ap (λ (xs : List (List ℕ)). length xs) c.in_ok-faces.ensures.faces, length-all_faces c.args.space.now, c.in_ok-faces.ensures.few)
