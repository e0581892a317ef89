-- Meaning for contracts, of `run`: Refusals, Answers (what is written; its end is for the code), GroupTexts (what `group`
-- writes), CoverTexts (what `covers` writes; its end is for the code), OneCover (what `cover` writes), Ends (how a run ends), Counting
-- (steps).
pub mod Refusals
pub mod Answers
pub mod GroupTexts
pub mod CoverTexts
pub mod OneCover
pub mod Counting
pub mod Ends
pub use Rattle.hap_outside.specs.Causes
pub use Rattle.hap_outside.specs.Stores
pub use Rattle.hap_words.specs.Asked
pub use Rattle.hap_words.specs.Table
pub use Rattle.hap_inputs.specs.Input
pub use Rattle.hap_ends.specs.Outcomes
pub use Rattle.cover_laws.specs.Laws
pub use Rattle.cover_listing.specs.PartCovers
pub use Rattle.cover_listing.specs.Listings
pub use Rattle.cover_listing.specs.Events
pub use Rattle.part_covers.specs.Covered
