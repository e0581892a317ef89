use Rattle.pair_laws.proofs.Ranks.{arranged_is}
use Rattle.pair_laws.proofs.orders.arranged_pairs_are_ordered.Goals as goal

pub returns : goal.returns
returns c = arranged_is
