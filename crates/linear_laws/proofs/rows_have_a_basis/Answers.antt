use Rattle.linear_laws.proofs.Laws.{rows_have_a_basis}
use Rattle.linear_laws.proofs.rows_have_a_basis.Goals as goal

pub returns : goal.returns
returns g c = rows_have_a_basis g.F.Field.ops g.met.F.Field.laws
