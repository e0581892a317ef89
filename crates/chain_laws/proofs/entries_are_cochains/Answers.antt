use Rattle.chain_laws.proofs.LineLemmas.{entries_are_cochains}
use Rattle.chain_laws.proofs.entries_are_cochains.Goals as goal

pub returns : goal.returns
returns g c = entries_are_cochains g.F.Field.ops g.met.F.Field.laws
