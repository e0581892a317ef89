use Rattle.split_laws.proofs.Fields.{split_of_field}
use Rattle.split_laws.proofs.fields_split.Goals as goal

pub returns : goal.returns
returns g c = split_of_field g.F.Field.ops g.met.F.Field.laws
