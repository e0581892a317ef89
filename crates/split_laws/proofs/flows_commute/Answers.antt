use Rattle.split_laws.proofs.Steps.{flow_commutes}
use Rattle.split_laws.proofs.flows_commute.Goals as goal

pub returns : goal.returns
returns g c = flow_commutes g.F.Field.ops g.met.F.Field.laws
