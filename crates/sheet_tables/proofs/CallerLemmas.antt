-- What other crates may cite of the proofs here.

-- a position from its text, and back
pub use Rattle.sheet_tables.proofs.PositionLemmas.{position-is, position-back}
-- a spot from its text, and back
pub use Rattle.sheet_tables.proofs.SpotLemmas.{spot-is, spot-back}
