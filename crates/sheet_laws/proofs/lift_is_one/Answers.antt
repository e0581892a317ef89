use Rattle.sheet_laws.proofs.Lifts.{lift_is_one}
use Rattle.sheet_laws.proofs.lift_is_one.Goals as goal

pub returns : goal.returns
returns c = lift_is_one c.cycles_go_round.ensures
