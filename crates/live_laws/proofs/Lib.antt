pub mod CallerLemmas
mod Appearing
mod Bound
mod Classes
mod Connected
mod Left
mod Orders
mod Resume
mod Small
mod Sound
mod Steps
mod Trees
mod Turned
mod Whole
