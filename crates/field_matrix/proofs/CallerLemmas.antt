-- What other crates may cite of the proofs here.

-- a reduced form has no more pivots than columns
pub use Rattle.field_matrix.proofs.Ranks.{few_pivots}
