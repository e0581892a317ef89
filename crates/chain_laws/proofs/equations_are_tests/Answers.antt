use Rattle.chain_laws.proofs.AllLineLemmas.{equations_are_tests}
use Rattle.chain_laws.proofs.equations_are_tests.Goals as goal

pub returns : goal.returns
returns g c = equations_are_tests g.F.Field.ops g.met.F.Field.laws c.coboundary_is_adjoint.ensures
