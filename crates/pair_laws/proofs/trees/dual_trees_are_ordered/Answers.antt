use Rattle.pair_laws.proofs.Sphere.{dual_ordered}
use Rattle.pair_laws.proofs.trees.dual_trees_are_ordered.Goals as goal

pub returns : goal.returns
returns c = dual_ordered
