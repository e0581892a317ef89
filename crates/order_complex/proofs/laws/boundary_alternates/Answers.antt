use Rattle.order_complex.proofs.Boundaries.{boundary-mark}
use Rattle.order_complex.proofs.laws.boundary_alternates.Goals as goal

pub returns : goal.returns
returns g c = λ space. boundary-mark g.F.Field.ops g.met.F.Field.laws space
