-- What the contracts mean: Towers, Inside, Buildings, Numbered, and Flags without its last words.
-- What the code keeps for itself: Listed, and of Flags AreFlags, IsOf, IsOrderOf, IsOrderPut and HasPlaces.
-- Words of lower crates that these speak of stand at the end.
pub mod Towers
pub mod Inside
pub mod Buildings
pub mod Numbered
pub mod Listed
pub mod Flags
pub use Rattle.order_complex.specs.Chains
pub use Rattle.order_complex.specs.Complex
pub use Rattle.vector_field.specs.Pairs
pub use Rattle.sphere_collapses.specs.Collapses
pub use Rattle.sphere_collapses.specs.Spheres
pub use Rattle.sphere_collapses.specs.Laws
pub use Rattle.regular_check.specs.Rules
pub use Rattle.regular_check.specs.Cycle
pub use Rattle.face_poset.specs.Poset
