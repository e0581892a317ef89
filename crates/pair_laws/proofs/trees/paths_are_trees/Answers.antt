use Rattle.pair_laws.proofs.Round.{cycle_tree}
use Rattle.pair_laws.proofs.trees.paths_are_trees.Goals as goal

pub returns : goal.returns
returns c = cycle_tree
