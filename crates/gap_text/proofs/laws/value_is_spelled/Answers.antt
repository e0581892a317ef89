use Rattle.gap_text.proofs.Joined.{value_is_spelled}
use Rattle.gap_text.proofs.laws.value_is_spelled.Goals as goal

pub returns : goal.returns
returns c = value_is_spelled
