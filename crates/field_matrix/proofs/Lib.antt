pub mod CallerLemmas
mod Cut
mod Splits
mod Clear
mod Pivots
mod BringUp
mod Reduced
mod Ranks
mod Views
mod Built
mod Sweep
mod Solved
mod Chosen
mod Bases
mod Turned
