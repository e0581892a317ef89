-- What the contracts mean: Levels and Complex. What the code keeps for itself: Stages.
-- Words of lower crates that these speak of stand at the end.
pub mod Levels
pub mod Complex
pub mod Stages
pub use Rattle.pair_stages.specs.Signed
pub use Rattle.split_laws.specs.Kinds
pub use Rattle.split_laws.specs.Solutions
pub use Rattle.split_laws.specs.Vectors
pub use Rattle.split_laws.specs.Field
pub use Rattle.face_poset.specs.Poset
pub use Rattle.field_matrix.specs.Rows
