use Rattle.vector_field.proofs.MaximalTest.{maximal_is_exact}
use Rattle.vector_field.proofs.laws.maximal_is_exact.Goals as goal

pub returns : goal.returns
returns c = maximal_is_exact
