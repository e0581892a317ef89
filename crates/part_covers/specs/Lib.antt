-- What the contracts mean: Covered and Faults.
-- Words of lower crates that these speak of stand at the end.
pub mod Covered
pub mod Faults
pub use Rattle.cover_listing.specs.PartCovers
pub use Rattle.cover_listing.specs.Nths
pub use Rattle.cover_space.specs.Total
pub use Rattle.part_groups.specs.Groups
pub use Rattle.sheet_laws.specs.Lifts
pub use Rattle.space_parts.specs.Parts
pub use Rattle.chosen_field.specs.Chosen
pub use Rattle.regular_check.specs.Components
pub use Rattle.regular_check.specs.Rules
pub use Rattle.face_poset.specs.Poset
