use Rattle.linear_laws.proofs.Solve.{more_are_dependent}
use Rattle.linear_laws.proofs.more_are_dependent.Goals as goal

pub returns : goal.returns
returns g c = more_are_dependent g.F.Field.ops g.met.F.Field.laws
