use Rattle.split_laws.proofs.Steps.{extensions_pair}
use Rattle.split_laws.proofs.extensions_pair.Goals as goal

pub returns : goal.returns
returns g c = extensions_pair g.F.Field.ops g.met.F.Field.laws
