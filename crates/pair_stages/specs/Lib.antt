-- What the contracts mean: Splits, Stages, Signed, Units, and of Filled the rows that are not zero.
-- What the code keeps for itself: Columns, Reaches, Blanks.
-- Words of lower crates that these speak of stand at the end.
pub mod Splits
pub mod Stages
pub mod Signed
pub mod Units
pub mod Filled
pub mod Columns
pub mod Reaches
pub mod Blanks
pub use Rattle.split_laws.specs.Kinds
pub use Rattle.split_laws.specs.Solutions
pub use Rattle.split_laws.specs.Vectors
pub use Rattle.split_laws.specs.Field
pub use Rattle.face_poset.specs.Poset
pub use Rattle.field_matrix.specs.Rows
