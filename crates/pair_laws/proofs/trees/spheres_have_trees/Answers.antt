use Rattle.pair_laws.proofs.Sphere.{sphere_has_trees}
use Rattle.pair_laws.proofs.trees.spheres_have_trees.Goals as goal

pub returns : goal.returns
returns c = sphere_has_trees
