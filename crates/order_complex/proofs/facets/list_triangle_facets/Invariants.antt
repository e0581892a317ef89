use Rattle.std.proofs.Common.{◌≡◌, map, take}
use Rattle.std.specs.List.{flat_map}
use Rattle.order_complex.specs.Chains.{chains_of}
use Rattle.order_complex.specs.Complex.{facet_numbers}
use Rattle.order_complex.specs.Listing.{extensions, uppers_of}
use Rattle.order_complex.proofs.facets.list_triangle_facets.Given as goal

abbrev pub invariant-loop-index : goal.invariant-loop-index
invariant-loop-index l = l.facets.items ≡ map (facet_numbers (chains_of l.uppers 1)) (flat_map (extensions (uppers_of l.uppers)) (take l.index l.edges))
