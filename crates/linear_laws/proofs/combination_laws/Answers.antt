use Rattle.linear_laws.proofs.Laws.{combination_laws}
use Rattle.linear_laws.proofs.combination_laws.Goals as goal

pub returns : goal.returns
returns g c = combination_laws g.F.Field.ops g.met.F.Field.laws
