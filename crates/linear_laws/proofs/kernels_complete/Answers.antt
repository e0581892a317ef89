use Rattle.linear_laws.proofs.Kernels.{kernels_complete}
use Rattle.linear_laws.proofs.kernels_complete.Goals as goal

pub returns : goal.returns
returns g c = kernels_complete g.F.Field.ops g.met.F.Field.laws
