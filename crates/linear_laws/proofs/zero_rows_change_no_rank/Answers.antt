use Rattle.linear_laws.proofs.ZeroRows.{zero_rows_laws}
use Rattle.linear_laws.proofs.zero_rows_change_no_rank.Goals as goal

pub returns : goal.returns
returns g c = zero_rows_laws g.F.Field.ops g.met.F.Field.laws
