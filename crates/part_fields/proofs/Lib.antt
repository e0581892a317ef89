pub mod CallerLemmas
mod Members
mod InParts
mod Wholes
mod Joined
mod Examples
