use Rattle.std.proofs.Common.{◌≡◌, ◌∷◌, ◌++◌, [], map, take, get_or}
use Rattle.order_complex.specs.Chains.{chains_of}
use Rattle.order_complex.specs.Complex.{facet_numbers}
use Rattle.order_complex.proofs.facets.push_tetrahedron_facets.Given as goal

abbrev pub invariant-loop-place : goal.invariant-loop-place
invariant-loop-place l =
    l.facets.items ≡ l.initial.facets.items ++ map (facet_numbers (chains_of l.uppers 2)) (map (λ upper. get_or l.triangles l.index [] ++ upper ∷ []) (take l.place l.after))
