-- What other crates may cite of the proofs here.

-- there are at most as many critical cells as cells
pub use Rattle.pair_stages.proofs.CallerLemmas.{criticals_few}
-- how many critical cells there are, the number of each, its place among the cells, and the value there
pub use Rattle.pair_stages.proofs.CallerLemmas.{critical_long, critical_at, place_below, part_at}
