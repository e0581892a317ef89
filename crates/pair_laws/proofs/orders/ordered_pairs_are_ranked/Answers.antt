use Rattle.pair_laws.proofs.Ranks.{ordered_ranked}
use Rattle.pair_laws.proofs.orders.ordered_pairs_are_ranked.Goals as goal

pub returns : goal.returns
returns c = ordered_ranked
