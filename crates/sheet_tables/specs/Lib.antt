-- What contracts mean: Positions, Tables, Spots, Laws. How the code reads a spot: Spots, at its end.
pub mod Positions
pub mod Tables
pub mod Spots
