pub mod CallerLemmas
mod Kept
mod LevelLemmas
mod Reductions
mod UnitsOf
