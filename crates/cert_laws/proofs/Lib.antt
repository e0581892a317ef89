pub mod CallerLemmas
mod Passing
mod FieldLines
mod Given
mod Examples
