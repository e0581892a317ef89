use Rattle.linear_laws.proofs.Kernels.{independent_span}
use Rattle.linear_laws.proofs.independent_vectors_span.Goals as goal

pub returns : goal.returns
returns g c = independent_span g.F.Field.ops g.met.F.Field.laws
