use Rattle.std.proofs.Common.{◌≡◌, take, map}
use Rattle.sphere_collapses.specs.Collapses.{lower_of, upper_of}
use Rattle.order_complex.specs.Chains.{id_of}
use Rattle.local_field.proofs.building.solid_building.Given as goal

abbrev pub invariant-loop-index : goal.invariant-loop-index
invariant-loop-index l = l.pairs.items ≡ map (λ p. (id_of l.regular (lower_of p), id_of l.regular (upper_of p))) (take l.index l.collapse)
