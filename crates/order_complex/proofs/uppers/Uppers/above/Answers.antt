use Rattle.std.proofs.Common.{ℕ, List, length, ap, arith}
use Rattle.face_poset.specs.Poset.{cell_count}
use Rattle.order_complex.proofs.Extended.{length-uppers_of}
use Rattle.order_complex.proofs.uppers.Uppers.above.Goals as goal

pub get-requires : goal.get-requires
get-requires c =
    omega (arith, c.requires.first, c.requires.last, ap (λ (xs : List (List ℕ)). length xs) c.self.invariant.0, length-uppers_of c.self.inside.space.now, ap cell_count c.self.view_is)
