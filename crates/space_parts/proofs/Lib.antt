pub mod CallerLemmas
mod Counted
mod Within
mod Places
mod PartSpaces
mod PartCopies
mod OneComponent
mod Whole
mod Listed
mod Stages
mod Numbers
mod Adding
mod Given
mod Examples
