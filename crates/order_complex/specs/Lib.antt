-- What the contracts mean: Chains, Sequences, Order, Cochains, Complex, Ranks, Homology, Cup, Laws, Numbers,
-- and chain_counts of Counting.
-- What the code keeps for itself: Listing, the rest of Counting, and stored_facets, stored_cofaces and IsNumbered of Complex.
-- Words of lower crates that these speak of stand at the end.
pub mod Chains
pub mod Sequences
pub mod Order
pub mod Cochains
pub mod Complex
pub mod Ranks
pub mod Homology
pub mod Cup
pub mod Laws
pub mod Numbers
pub mod Counting
pub mod Listing
pub use Rattle.number_lists.specs.Words
pub use Rattle.number_lists.specs.Members
pub use Rattle.face_poset.specs.Poset
pub use Rattle.face_poset.specs.Below
pub use Rattle.face_poset.specs.Signs
pub use Rattle.small_field.specs.Field
pub use Rattle.linear_laws.specs.Vectors
pub use Rattle.linear_laws.specs.Echelon
