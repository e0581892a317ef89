use Rattle.gap_text.proofs.Joined.{fault_is_no_value}
use Rattle.gap_text.proofs.laws.fault_is_no_value.Goals as goal

pub returns : goal.returns
returns c = fault_is_no_value
