use Rattle.split_laws.proofs.Bases.{bases_extend}
use Rattle.split_laws.proofs.bases_extend.Goals as goal

pub returns : goal.returns
returns g c = bases_extend g.F.Field.ops g.met.F.Field.laws
