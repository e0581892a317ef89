use Rattle.linear_laws.proofs.Laws.{bases_are_as_long}
use Rattle.linear_laws.proofs.bases_are_as_long.Goals as goal

pub returns : goal.returns
returns g c = bases_are_as_long g.F.Field.ops g.met.F.Field.laws
