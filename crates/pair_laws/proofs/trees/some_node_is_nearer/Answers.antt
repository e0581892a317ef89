use Rattle.pair_laws.proofs.Distance.{nearer_is}
use Rattle.pair_laws.proofs.trees.some_node_is_nearer.Goals as goal

pub returns : goal.returns
returns c = nearer_is
