use Rattle.pair_laws.proofs.Ranks.{arranged_once}
use Rattle.pair_laws.proofs.orders.pairs_are_arranged_once.Goals as goal

pub returns : goal.returns
returns c = arranged_once
