-- What other crates may cite of the proofs here.

-- ---- the order of a field

-- each element stands in a relation to each later one, and what that says of two of them
pub use Rattle.vector_field.proofs.Lined.{Lined, lined-two}
-- lists joined, filtered and cut stay so
pub use Rattle.vector_field.proofs.Lined.{lined-append, lined-push, lined-filter, lined-left}
-- a valid list of pairs: each is incident, and each may stand before each later one
pub use Rattle.vector_field.proofs.Valid.{Apart, apart-sym, Goes, IsLined, lined-from, valid-from}
-- what it is for a pair to use a cell: none of the list uses one that is in no pair
pub use Rattle.vector_field.proofs.Valid.{Uses, unused-In, unused-from, used-some, used-In, used-more}
-- what it is to be the lower of a pair
pub use Rattle.vector_field.proofs.Valid.{has_lower-true, has_lower-from}
-- induction along a field, for any property of lowers
pub use Rattle.vector_field.proofs.Earlier.{along-field}
-- no other facet of a pair's upper is its lower
pub use Rattle.vector_field.proofs.Earlier.{not-itself}
-- ---- gradient paths and maximal fields

-- another facet of an upper; more pairs have more paths; the tests for paths are exact
pub use Rattle.vector_field.proofs.Paths.{other-In, leads-more, path-more, path_is_exact}
-- what is settled stays settled, and pairs that settle all cells are maximal
pub use Rattle.vector_field.proofs.Settled.{are-settled-more, maximal-from, field-of}
-- pairs that are added by number: a field stays one, and the cells of the dimension are settled
pub use Rattle.vector_field.proofs.Filled.{IsMorePairs, IsFilled, filled-is, filled-above}
-- ---- pairs of free faces

-- pairs of cells with the only coface that is left, as they are made; backward they are in a valid order
pub use Rattle.vector_field.proofs.Making.{IsMaking, making_begun, making_less, making_more, making_done, dims-reverse}
-- ---- cells

-- what it is to be incident
pub use Rattle.vector_field.proofs.MaximalTest.{Incident, incident-true, incident-from}
-- facets are cells that are there, and increase
pub use Rattle.vector_field.proofs.InRange.{facets-cell, facet-range}
-- the critical cells of a field are those in no pair
pub use Rattle.vector_field.proofs.Fields.{critical-is}
-- ---- cofaces

-- a cell that has another as a facet is among its cofaces
pub use Rattle.vector_field.proofs.MaximalTest.{In-cofaces, cofaces-In}
-- each coface that a call hands out is a cell that has the cell as a facet
pub use Rattle.vector_field.proofs.MaximalTest.{Coface}
pub use Rattle.vector_field.proofs.CofaceAt.{coface_at}
