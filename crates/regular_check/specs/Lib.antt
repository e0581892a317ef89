-- What the contracts mean: Rules, Components, and Cycle but for AreCycles, HasEnds and IsFirstEdge.
-- What the code keeps for itself: Tally, and those three of Cycle.
-- Words of lower crates that these speak of stand at the end.
pub mod Rules
pub mod Cycle
pub mod Components
pub mod Tally
pub use Rattle.face_poset.specs.Poset
pub use Rattle.face_poset.specs.Below
pub use Rattle.number_lists.specs.Words
pub use Rattle.number_lists.specs.Reach
