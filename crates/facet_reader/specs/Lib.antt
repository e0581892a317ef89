-- What the contracts mean: SetSpaces, Labels, Simplices, Orders and OrderLaws.
-- What the code keeps for itself: Places and Chains.
-- Words of lower crates that these speak of stand at the end.
pub mod SetSpaces
pub mod Labels
pub mod Simplices
pub mod Orders
pub mod OrderLaws
pub mod Places
pub mod Chains
pub use Rattle.regular_check.specs.Rules
pub use Rattle.face_poset.specs.Poset
pub use Rattle.number_lists.specs.Words
pub use Rattle.number_lists.specs.Members
pub use Rattle.number_lists.specs.Cofaces
pub use Rattle.tuple_spaces.specs.Tuples
