use Rattle.gap_text.proofs.Placed.{fault_is_placed}
use Rattle.gap_text.proofs.laws.fault_is_placed.Goals as goal

pub returns : goal.returns
returns c = fault_is_placed
