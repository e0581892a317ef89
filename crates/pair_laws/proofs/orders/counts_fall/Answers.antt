use Rattle.pair_laws.proofs.Counts.{count_falls}
use Rattle.pair_laws.proofs.orders.counts_fall.Goals as goal

pub returns : goal.returns
returns c = count_falls
