pub mod CallerLemmas
mod Telling
mod Spotting
