-- What the contracts mean: Searches.
-- What the code keeps for itself: Columns, Indexes, Courses, Holdings.
-- Words of lower crates that these speak of stand at the end.
pub mod Searches
pub mod Columns
pub mod Indexes
pub mod Courses
pub mod Holdings
pub use Rattle.live_laws.specs.Live
pub use Rattle.live_laws.specs.Walks
pub use Rattle.live_laws.specs.Trees
pub use Rattle.edge_words.specs.Words
pub use Rattle.sheet_tables.specs.Positions
pub use Rattle.sheet_tables.specs.Tables
