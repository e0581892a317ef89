use Rattle.regular_check.proofs.Leasts.{same_component_is_a_path}
use Rattle.regular_check.proofs.laws.same_component_is_a_path.Goals as goal

pub returns : goal.returns
returns c = same_component_is_a_path
