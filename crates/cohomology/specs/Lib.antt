-- What the contracts mean: Echelons, the first part of Bases, and Written.
-- What the code keeps for itself: Swept, RankLines, and the rest of Bases.
-- Words of lower crates that these speak of stand at the end.
pub mod Echelons
pub mod Bases
pub mod RankLines
pub mod Written
pub mod Swept
pub use Rattle.chain_laws.specs.Lines
pub use Rattle.chain_laws.specs.AllLines
pub use Rattle.critical_complex.specs.Levels
pub use Rattle.critical_complex.specs.Complex
pub use Rattle.split_laws.specs.Kinds
pub use Rattle.split_laws.specs.Solutions
pub use Rattle.order_complex.specs.Homology
pub use Rattle.order_complex.specs.Ranks
pub use Rattle.linear_laws.specs.Vectors
pub use Rattle.linear_laws.specs.Betti
pub use Rattle.linear_laws.specs.Echelon
pub use Rattle.linear_laws.specs.Marks
pub use Rattle.field_matrix.specs.Rows
