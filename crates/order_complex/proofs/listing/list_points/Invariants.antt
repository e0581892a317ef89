use Rattle.std.proofs.Common.{◌≡◌, ◌∷◌, [], map}
use Rattle.face_poset.specs.Words.{upto}
use Rattle.order_complex.proofs.listing.list_points.Given as goal

abbrev pub invariant-loop-index : goal.invariant-loop-index
invariant-loop-index l = l.points.items ≡ map (λ cell. cell ∷ []) (upto l.index)
