mod Accepted
pub mod CallerLemmas
mod Classes
mod Counted
mod Joined
mod Lexed
mod Placed
mod Printed
mod Run
mod Spelled
mod Stack
mod Steps
mod Views
