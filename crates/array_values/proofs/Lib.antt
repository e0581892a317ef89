mod Gather
mod Rows
mod Levels
mod Examples
pub mod CallerLemmas
