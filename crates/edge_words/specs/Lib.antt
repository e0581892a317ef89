-- What the contracts mean: Words, Limits, Labels and Laws.
-- What the code keeps for itself: Places, Reducing, Counting and Moves.
-- Words of lower crates that these speak of stand at the end.
pub mod Words
pub mod Limits
pub mod Labels
pub mod Laws
pub mod Places
pub mod Reducing
pub mod Counting
pub mod Moves
pub use Rattle.pair_laws.specs.Letters
pub use Rattle.sheet_laws.specs.Tables
pub use Rattle.sheet_laws.specs.Labellings
pub use Rattle.sheet_laws.specs.Lifts
pub use Rattle.live_laws.specs.Live
pub use Rattle.live_laws.specs.Walks
pub use Rattle.vector_field.specs.Pairs
pub use Rattle.regular_check.specs.Rules
pub use Rattle.regular_check.specs.Cycle
pub use Rattle.face_poset.specs.Poset
