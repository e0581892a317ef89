use Rattle.regular_check.proofs.NumbersTaken.{components_are_numbered}
use Rattle.regular_check.proofs.laws.components_are_numbered.Goals as goal

pub returns : goal.returns
returns c = components_are_numbered
