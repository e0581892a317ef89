-- Meaning for contracts: Vectors, Echelon, ZeroRows, Betti, Linear, Triangle, Laws, and `mark` of Marks. What the code of matrices keeps
-- for itself: the rest of Marks, unit vectors and rows side by side.
pub mod Vectors
pub mod Echelon
pub mod ZeroRows
pub mod Triangle
pub mod Linear
pub mod Betti
pub mod Marks
pub mod Laws
pub use Rattle.small_field.specs.Field
pub use Rattle.small_field.specs.Values
pub use Rattle.small_field.specs.Lanes
