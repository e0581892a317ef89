use Rattle.std.proofs.Common.{◌≡◌, ◌-◌, map, reverse, take, get_or}
use Rattle.order_complex.specs.Cochains.{alternating}
use Rattle.order_complex.proofs.chains.Chains.coboundary_at.Given as goal

abbrev pub invariant-loop-facet : goal.invariant-loop-facet
invariant-loop-facet g l = g.F.Field.number_of l.value ≡ alternating g.F.Field.ops (map (λ n. get_or l.x (n - 1) 0) (reverse (take l.facet-index l.facet-items)))
