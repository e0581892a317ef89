pub mod CallerLemmas
mod Examples
mod Laws
mod Pushed
mod SmallFields
