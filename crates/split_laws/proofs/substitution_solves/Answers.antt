use Rattle.split_laws.proofs.Fields.{extended, flowed, cleared}
use Rattle.split_laws.proofs.substitution_solves.Goals as goal

pub returns : goal.returns
returns g c = record { extension = extended g.F.Field.ops g.met.F.Field.laws; flow = flowed g.F.Field.ops g.met.F.Field.laws; clearing = cleared g.F.Field.ops g.met.F.Field.laws }
