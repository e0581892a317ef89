-- What contracts mean: Outcomes (how a run ends), Refusals (why a command refuses). How the code writes a spot: Refusals, at its end.
pub mod Refusals
pub mod Outcomes
pub use Rattle.sheet_tables.specs.Spots
