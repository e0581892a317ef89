use Rattle.pair_laws.proofs.Ranks.{never_stuck}
use Rattle.pair_laws.proofs.orders.some_pair_is_ready.Goals as goal

pub returns : goal.returns
returns c = never_stuck
