use Rattle.linear_laws.proofs.Betti.{basis_by_ranks}
use Rattle.linear_laws.proofs.basis_by_ranks.Goals as goal

pub returns : goal.returns
returns g c = basis_by_ranks g.F.Field.ops g.met.F.Field.laws
