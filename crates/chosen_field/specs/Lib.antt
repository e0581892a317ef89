-- What the contracts mean: Chosen and Laws.
-- What the code keeps for itself: Rests, Listings and Levels.
-- Words of lower crates that these speak of stand at the end.
pub mod Chosen
pub mod Laws
pub mod Rests
pub mod Listings
pub mod Levels
pub use Rattle.face_poset.specs.Poset
pub use Rattle.number_lists.specs.Words
pub use Rattle.number_lists.specs.Members
pub use Rattle.number_lists.specs.Reach
pub use Rattle.regular_check.specs.Rules
pub use Rattle.regular_check.specs.Components
pub use Rattle.vector_field.specs.Pairs
pub use Rattle.vector_field.specs.Maximal
pub use Rattle.vector_field.specs.Stages
pub use Rattle.pair_laws.specs.Ranks
pub use Rattle.pair_laws.specs.Distance
