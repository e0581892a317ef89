-- What the contracts mean: BoxTuples and ArcComplements.
-- What the code keeps for itself: Places.
-- Words of lower crates that these speak of stand at the end.
pub mod BoxTuples
pub mod ArcComplements
pub mod Places
pub use Rattle.tuple_spaces.specs.Tuples
pub use Rattle.tuple_spaces.specs.Voxels
pub use Rattle.tuple_spaces.specs.Rules
pub use Rattle.array_values.specs.Arcs
pub use Rattle.array_values.specs.Bits
pub use Rattle.array_values.specs.Nest
pub use Rattle.array_values.specs.Value
