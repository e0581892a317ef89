use Rattle.number_lists.proofs.Reach.{reaches_is}
use Rattle.number_lists.proofs.laws.rounds_reach_what_steps_lead_to.Goals as goal

pub returns : goal.returns
returns c = reaches_is
