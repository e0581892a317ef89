-- What the contracts mean: Permutahedra.
-- What the code keeps for itself: Places.
-- Words of lower crates that these speak of stand at the end.
pub mod Permutahedra
pub mod Places
pub use Rattle.tuple_spaces.specs.Tuples
pub use Rattle.array_values.specs.Bits
pub use Rattle.array_values.specs.Nest
pub use Rattle.array_values.specs.Value
