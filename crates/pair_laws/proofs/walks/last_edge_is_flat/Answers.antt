use Rattle.pair_laws.proofs.Joins.{flat_forced}
use Rattle.pair_laws.proofs.walks.last_edge_is_flat.Goals as goal

pub returns : goal.returns
returns c = flat_forced
