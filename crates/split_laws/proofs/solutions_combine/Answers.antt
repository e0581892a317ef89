use Rattle.split_laws.proofs.Flows.{solutions_combine}
use Rattle.split_laws.proofs.solutions_combine.Goals as goal

pub returns : goal.returns
returns g c = solutions_combine g.F.Field.ops g.met.F.Field.laws
