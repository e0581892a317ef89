use Rattle.order_complex.proofs.Boundaries.{boundary-boundary}
use Rattle.order_complex.proofs.laws.boundaries_are_cycles.Goals as goal

pub returns : goal.returns
returns g c = λ space. boundary-boundary g.F.Field.ops g.met.F.Field.laws space
