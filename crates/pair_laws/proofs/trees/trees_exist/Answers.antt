use Rattle.pair_laws.proofs.Tree.{tree_exists}
use Rattle.pair_laws.proofs.trees.trees_exist.Goals as goal

pub returns : goal.returns
returns c = tree_exists
