use Rattle.split_laws.proofs.Counts.{cells_are_counted}
use Rattle.split_laws.proofs.cells_are_counted.Goals as goal

pub returns : goal.returns
returns g c = cells_are_counted g.F.Field.ops g.met.F.Field.laws
