-- What the contracts mean: Lines, AllLines and Laws. There is no code that keeps anything for itself.
-- Words of lower crates that these speak of stand at the end.
pub mod Lines
pub mod AllLines
pub mod Laws
pub use Rattle.order_complex.specs.Chains
pub use Rattle.order_complex.specs.Cochains
pub use Rattle.order_complex.specs.Cup
pub use Rattle.order_complex.specs.Homology
pub use Rattle.order_complex.specs.Ranks
pub use Rattle.linear_laws.specs.Vectors
pub use Rattle.linear_laws.specs.Triangle
pub use Rattle.linear_laws.specs.Marks
pub use Rattle.linear_laws.specs.Field
pub use Rattle.linear_laws.specs.Values
pub use Rattle.small_field.specs.Sparse
pub use Rattle.face_poset.specs.Words
