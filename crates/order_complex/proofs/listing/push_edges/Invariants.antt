use Rattle.std.proofs.Common.{◌≡◌, ◌∷◌, ◌++◌, [], map, take}
use Rattle.order_complex.proofs.listing.push_edges.Given as goal

abbrev pub invariant-loop-upper : goal.invariant-loop-upper
invariant-loop-upper l = l.edges.items ≡ l.initial.edges.items ++ map (λ upper. l.first ∷ upper ∷ []) (take l.upper-index l.uppers)
