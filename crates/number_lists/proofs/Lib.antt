pub mod CallerLemmas
mod Counting
mod Cuts
mod Distinct
mod Increasing
mod Inserted
mod Mapped
mod Marked
mod Members
mod Reach
mod Rooms
mod Touch
