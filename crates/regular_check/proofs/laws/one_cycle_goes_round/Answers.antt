use Rattle.regular_check.proofs.Circuits.{one_cycle_goes_round}
use Rattle.regular_check.proofs.laws.one_cycle_goes_round.Goals as goal

pub returns : goal.returns
returns c = one_cycle_goes_round
