-- All of these are meaning for contracts; no code stands here. Words of lower crates that these speak of stand at the end.
pub mod Trees
pub mod Walks
pub mod Live
pub mod Orders
pub mod Classes
pub mod Small
pub use Rattle.sheet_laws.specs.Permutations
pub use Rattle.sheet_laws.specs.Tables
pub use Rattle.pair_laws.specs.Letters
