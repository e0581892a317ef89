-- All of it is meaning for contracts: Input (the bytes that a command reads), Spaces (the stages of their reading).
pub mod Input
pub mod Spaces
pub use Rattle.hap_outside.specs.Stores
pub use Rattle.hap_words.specs.Asked
