pub mod CallerLemmas
mod Loops
mod Products
mod Steps
mod VectorLemmas
