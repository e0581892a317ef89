-- All of these are meaning for contracts; no code stands here.
pub mod Kinds
pub mod Split
pub mod Solutions
pub mod Pairs
pub mod Complex
pub mod Laws
pub use Rattle.linear_laws.specs.Vectors
pub use Rattle.linear_laws.specs.Echelon
pub use Rattle.linear_laws.specs.Betti
pub use Rattle.linear_laws.specs.Field
