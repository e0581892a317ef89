use Rattle.linear_laws.proofs.Kernels.{history_gives_kernel}
use Rattle.linear_laws.proofs.history_gives_kernel.Goals as goal

pub returns : goal.returns
returns g c = history_gives_kernel g.F.Field.ops g.met.F.Field.laws
