-- What the contracts mean: Parts and Laws.
-- What the code keeps for itself: Listings and Making.
-- Words of lower crates that these speak of stand at the end.
pub mod Parts
pub mod Laws
pub mod Listings
pub mod Making
pub use Rattle.regular_check.specs.Components
pub use Rattle.regular_check.specs.Rules
pub use Rattle.face_poset.specs.Poset
pub use Rattle.number_lists.specs.Words
