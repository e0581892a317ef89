-- What the contracts mean: Listings, Events, PartCovers, Nths.
-- What the code keeps for itself: Passes.
-- Words of lower crates that these speak of stand at the end.
pub mod Listings
pub mod Events
pub mod PartCovers
pub mod Nths
pub mod Passes
pub use Rattle.cover_search.specs.Searches
pub use Rattle.cover_laws.specs.Covers
pub use Rattle.live_laws.specs.Live
pub use Rattle.live_laws.specs.Trees
pub use Rattle.edge_words.specs.Words
pub use Rattle.space_parts.specs.Parts
pub use Rattle.chosen_field.specs.Chosen
pub use Rattle.regular_check.specs.Components
pub use Rattle.sheet_tables.specs.Spots
