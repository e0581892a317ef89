use Rattle.split_laws.proofs.Steps.{cleared}
use Rattle.split_laws.proofs.cocycles_are_extensions.Goals as goal

pub returns : goal.returns
returns g c = cleared g.F.Field.ops g.met.F.Field.laws
