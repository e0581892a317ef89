-- What the contracts mean: Oriented and Along.
-- What the code keeps for itself: Minus.
-- Words of lower crates that these speak of stand at the end.
pub mod Oriented
pub mod Along
pub mod Minus
pub use Rattle.sphere_collapses.specs.Collapses
pub use Rattle.regular_check.specs.Rules
pub use Rattle.regular_check.specs.Cycle
pub use Rattle.face_poset.specs.Poset
pub use Rattle.face_poset.specs.Signs
