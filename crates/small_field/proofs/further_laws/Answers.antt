use Rattle.small_field.proofs.Laws.{further_laws}
use Rattle.small_field.proofs.further_laws.Goals as goal

pub returns : goal.returns
returns g c = further_laws g.F.Field.ops g.met.F.Field.laws
