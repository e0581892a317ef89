use Rattle.std.proofs.Common.{◌≡◌, ◌∷◌, ◌++◌, [], map, take}
use Rattle.order_complex.proofs.listing.push_tetrahedra.Given as goal

abbrev pub invariant-loop-upper : goal.invariant-loop-upper
invariant-loop-upper l = l.tetrahedra.items ≡ l.initial.tetrahedra.items ++ map (λ upper. l.first ∷ l.second ∷ l.third ∷ upper ∷ []) (take l.upper-index l.uppers)
