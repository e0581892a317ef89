pub mod CallerLemmas
mod PositionLemmas
mod SpotLemmas
