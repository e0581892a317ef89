use Rattle.linear_laws.proofs.Laws.{rank_of_basis}
use Rattle.linear_laws.proofs.rank_is_dimension.Goals as goal

pub returns : goal.returns
returns g c = rank_of_basis g.F.Field.ops g.met.F.Field.laws
