pub mod CallerLemmas
mod Parts
mod Solved
mod Only
mod Settle
mod Fields
mod Linear
mod Steps
mod Bases
mod Flows
mod Counts
