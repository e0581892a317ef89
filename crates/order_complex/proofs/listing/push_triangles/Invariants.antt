use Rattle.std.proofs.Common.{◌≡◌, ◌∷◌, ◌++◌, [], map, take}
use Rattle.order_complex.proofs.listing.push_triangles.Given as goal

abbrev pub invariant-loop-upper : goal.invariant-loop-upper
invariant-loop-upper l = l.triangles.items ≡ l.initial.triangles.items ++ map (λ upper. l.first ∷ l.second ∷ upper ∷ []) (take l.upper-index l.uppers)
