-- What other crates may cite of the proofs here.

-- what first_place is: the place of a number that is not 0 behind zeros alone, and None where all are 0
pub use Rattle.lane_rows.proofs.Loops.{place_found, place_missing}
-- two functions that agree on the numbers below n give one row, of two rows (on the numbers of the second) and of one
pub use Rattle.lane_rows.proofs.Steps.{zip2-agree, map-agree}
