-- What the contracts mean: Collapses, Spheres and Laws; for trees and places also Places, and IsLink and IsTree of Trees.
-- What the code keeps for itself: the rest of Trees.
-- Words of lower crates that these speak of stand at the end.
pub mod Collapses
pub mod Spheres
pub mod Laws
pub mod Places
pub mod Trees
pub use Rattle.pair_laws.specs.Joins
pub use Rattle.pair_laws.specs.Tree
pub use Rattle.pair_laws.specs.Sphere
pub use Rattle.regular_check.specs.Rules
pub use Rattle.regular_check.specs.Cycle
pub use Rattle.face_poset.specs.Poset
pub use Rattle.face_poset.specs.Below
