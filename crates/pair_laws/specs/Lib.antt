-- All of these are meaning for contracts; no code stands here. Words of lower crates that these speak of stand at the end.
pub mod Letters
pub mod Ranks
pub mod Counts
pub mod Joins
pub mod Tree
pub mod Sections
pub mod Sphere
pub mod Distance
pub mod Round
pub use Rattle.number_lists.specs.Members
pub use Rattle.number_lists.specs.Words
pub use Rattle.number_lists.specs.Reach
