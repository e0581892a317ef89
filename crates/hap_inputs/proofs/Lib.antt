pub mod CallerLemmas
mod Long
mod Stages
