-- What the contracts mean: Pairs, Paths, Maximal and Laws, `filled` of Stages and what it stands on, with `inserted` of Pairings.
-- What the code keeps for itself: CellMaps, LastPlaces, Searches, and the rest of Stages and Pairings.
-- Words of lower crates that these speak of stand at the end.
pub mod Pairs
pub mod Paths
pub mod Maximal
pub mod Laws
pub mod CellMaps
pub mod Pairings
pub mod LastPlaces
pub mod Searches
pub mod Stages
pub use Rattle.face_poset.specs.Poset
pub use Rattle.regular_check.specs.Components
pub use Rattle.number_lists.specs.Words
pub use Rattle.number_lists.specs.Members
pub use Rattle.number_lists.specs.Reach
