pub mod CallerLemmas
mod Counts
mod Distance
mod Joins
mod Lists
mod Ranks
mod Reduction
mod Round
mod Sections
mod Sphere
mod Tree
