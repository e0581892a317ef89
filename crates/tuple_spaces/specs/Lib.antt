-- What the contracts mean: Tuples, Torus, Voxels and VoxelLaws.
-- What the code keeps for itself: Making and TorusPlaces.
-- Words of lower crates that these speak of stand at the end.
pub mod Tuples
pub mod Torus
pub mod Voxels
pub mod VoxelLaws
pub mod Making
pub mod TorusPlaces
pub use Rattle.regular_check.specs.Rules
pub use Rattle.face_poset.specs.Poset
pub use Rattle.number_lists.specs.Words
pub use Rattle.array_values.specs.Answers
pub use Rattle.array_values.specs.Bits
pub use Rattle.array_values.specs.Value
