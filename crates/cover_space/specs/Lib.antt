-- What the contracts mean: Total and Laws.
-- What the code keeps for itself: Making.
-- Words of lower crates that these speak of stand at the end.
pub mod Total
pub mod Laws
pub mod Making
pub use Rattle.sheet_laws.specs.Permutations
pub use Rattle.sheet_laws.specs.Labellings
pub use Rattle.regular_check.specs.Rules
pub use Rattle.regular_check.specs.Cycle
pub use Rattle.face_poset.specs.Poset
pub use Rattle.face_poset.specs.Below
