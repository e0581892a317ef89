-- All of these are meaning for contracts; no code stands here. Words of lower crates that these speak of stand at the end.
pub mod Permutations
pub mod Tables
pub mod Labellings
pub mod Lifts
pub use Rattle.vector_field.specs.Pairs
pub use Rattle.regular_check.specs.Cycle
pub use Rattle.regular_check.specs.Rules
pub use Rattle.face_poset.specs.Poset
pub use Rattle.number_lists.specs.Words
pub use Rattle.number_lists.specs.Reach
