use Rattle.vector_field.proofs.Paths.{path_is_exact}
use Rattle.vector_field.proofs.laws.path_is_exact.Goals as goal

pub returns : goal.returns
returns c = path_is_exact
