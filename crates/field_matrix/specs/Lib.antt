-- Meaning for contracts: Rows, Solutions. What the code keeps for itself: Steps, the steps of an elimination.
pub mod Rows
pub mod Steps
pub mod Solutions
pub use Rattle.linear_laws.specs.Vectors
pub use Rattle.linear_laws.specs.Echelon
pub use Rattle.linear_laws.specs.Field
pub use Rattle.linear_laws.specs.Values
pub use Rattle.linear_laws.specs.Lanes
