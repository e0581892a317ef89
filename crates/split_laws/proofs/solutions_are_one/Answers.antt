use Rattle.split_laws.proofs.Only.{solutions_are_one}
use Rattle.split_laws.proofs.solutions_are_one.Goals as goal

pub returns : goal.returns
returns g c = solutions_are_one g.F.Field.ops g.met.F.Field.laws
