use Rattle.split_laws.proofs.Bases.{betti_by_reduced_ranks}
use Rattle.split_laws.proofs.betti_by_reduced_ranks.Goals as goal

pub returns : goal.returns
returns g c = betti_by_reduced_ranks g.F.Field.ops g.met.F.Field.laws
