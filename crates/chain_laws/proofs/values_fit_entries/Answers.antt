use Rattle.chain_laws.proofs.RowLemmas.{values_fit_entries}
use Rattle.chain_laws.proofs.values_fit_entries.Goals as goal

pub returns : goal.returns
returns g c = values_fit_entries g.F.Field.ops g.met.F.Field.laws c.coboundary_is_adjoint.ensures
