-- What other crates may cite of the proofs here.

-- there are at most as many critical cells as cells
pub use Rattle.pair_stages.proofs.Placed.{criticals_few}
-- how many critical cells there are, the number of each, its place among the cells, and the value there
pub use Rattle.pair_stages.proofs.Placed.{critical_long, critical_at, place_below, part_at}
-- two degrees, one after the other
pub use Rattle.pair_stages.proofs.UnitLemmas.{paired_at}
-- the reduced rows of a degree are one
pub use Rattle.pair_stages.proofs.Rows.{reduced_is_one}
-- the entry of each pair is not zero
pub use Rattle.pair_stages.proofs.Pairwise.{triangular_at}
-- of units: a side as a mark, the value of one on another, and that each upper has exactly one
pub use Rattle.pair_stages.proofs.UnitLemmas.{filled_mark, value_is, match_uppers}
-- the pairs of a valid field of a signed set are a matching between two dimensions; the first one has no upper
pub use Rattle.pair_stages.proofs.Matching.{matching, first_kinds}
-- splits of degrees without cells, of one with none before it, and combinations without rows
pub use Rattle.pair_stages.proofs.Complexes.{empty_split, first_split, combinations_of_nothing}
