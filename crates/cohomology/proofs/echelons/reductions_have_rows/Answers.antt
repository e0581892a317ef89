use Rattle.cohomology.proofs.SignedRows.{reductions_have_rows}
use Rattle.cohomology.proofs.echelons.reductions_have_rows.Goals as goal

pub returns : goal.returns
returns g c = reductions_have_rows g.F.Field.ops g.met.F.Field.laws
