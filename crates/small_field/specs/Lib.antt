-- Meaning for contracts: Field, Prime, Quadratic (the fields), Modulus (which there are), Laws, Values (elements, entries),
-- Sparse.
-- What the code keeps for itself: AreValues of Values; ModField (the laws of arithmetic modulo p) and Tried (the laws of
-- the fields of 4 and 9 elements).
pub mod Field
pub mod Prime
pub mod Quadratic
pub mod Laws
pub mod Sparse
pub mod Values
pub mod Modulus
pub mod ModField
pub mod Tried
pub use Rattle.lane_rows.specs.Lanes
