use Rattle.chain_laws.proofs.LineLemmas.{tests_are_equations}
use Rattle.chain_laws.proofs.tests_are_equations.Goals as goal

pub returns : goal.returns
returns g c = tests_are_equations g.F.Field.ops g.met.F.Field.laws
