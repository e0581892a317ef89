use Rattle.sheet_laws.proofs.Transitive.{lifts_are_connected}
use Rattle.sheet_laws.proofs.lifts_are_connected.Goals as goal

pub returns : goal.returns
returns c = lifts_are_connected c.cycles_go_round.ensures
