-- All of these are meaning for contracts; no code stands here. Words of lower crates that these speak of stand at the
-- end.
pub mod Covers
pub mod Laws
pub use Rattle.sheet_laws.specs.Tables
pub use Rattle.sheet_laws.specs.Labellings
pub use Rattle.sheet_laws.specs.Lifts
pub use Rattle.live_laws.specs.Live
pub use Rattle.edge_words.specs.Words
pub use Rattle.vector_field.specs.Pairs
pub use Rattle.vector_field.specs.Maximal
pub use Rattle.regular_check.specs.Components
pub use Rattle.regular_check.specs.Rules
pub use Rattle.face_poset.specs.Poset
