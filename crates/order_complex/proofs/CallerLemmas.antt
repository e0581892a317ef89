-- What other crates may cite of the proofs here, by topic.

-- ---- chains

-- no chain has five cells
pub use Rattle.order_complex.proofs.Heights.{chains_of-four}
-- sequences at different places of an ordered list differ
pub use Rattle.order_complex.proofs.Ordered.{ordered-differ}
-- the graded set has as many cells of a dimension as there are chains of the degree; its layer is the lists of facets
pub use Rattle.order_complex.proofs.Cofaces.{count-chains, layer-facets}
-- the number of the chain at a place
pub use Rattle.order_complex.proofs.Cofaces.{number-of}
-- ---- coboundaries

-- what the coboundary of a mark takes on a chain: the sign at a facet, else 0
pub use Rattle.order_complex.proofs.Cofaces.{weight, coboundary-mark}
-- the rows of a coboundary are a matrix, as many as the chains
pub use Rattle.order_complex.proofs.Evaluation.{rows_on-matrix}
pub use Rattle.order_complex.proofs.Bases.{length-rows_of}
-- two coboundaries in a row are zero, by rows; a basis by rows is a basis of cocycles modulo coboundaries
pub use Rattle.order_complex.proofs.Bases.{composition_is_zero, basis_of}
-- ---- lists

-- a number is in a reversed list exactly where it is in the list
pub use Rattle.order_complex.proofs.Cancel.{holds-reverse}
