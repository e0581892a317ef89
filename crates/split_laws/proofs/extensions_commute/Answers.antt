use Rattle.split_laws.proofs.Steps.{commutes}
use Rattle.split_laws.proofs.extensions_commute.Goals as goal

pub returns : goal.returns
returns g c = commutes g.F.Field.ops g.met.F.Field.laws
