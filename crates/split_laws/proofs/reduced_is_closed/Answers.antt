use Rattle.split_laws.proofs.Steps.{reduced_closed}
use Rattle.split_laws.proofs.reduced_is_closed.Goals as goal

pub returns : goal.returns
returns g c = reduced_closed g.F.Field.ops g.met.F.Field.laws
