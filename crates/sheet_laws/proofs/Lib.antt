pub mod CallerLemmas
mod Cells
mod Examples
mod Joined
mod Leasts
mod Lifts
mod Permutations
mod Rounds
mod Transitive
mod Walks
