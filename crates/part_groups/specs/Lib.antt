-- What the contracts mean: Groups.
-- Words of lower crates that these speak of stand at the end.
pub mod Groups
pub use Rattle.edge_words.specs.Words
pub use Rattle.edge_words.specs.Limits
pub use Rattle.chosen_field.specs.Chosen
pub use Rattle.vector_field.specs.Pairs
pub use Rattle.vector_field.specs.Maximal
pub use Rattle.space_parts.specs.Parts
pub use Rattle.regular_check.specs.Components
