-- What other crates may cite of the proofs here.

-- a refusal has a status from 2 to 6
pub use Rattle.hap_ends.proofs.Telling.{refused_range}
-- the room of a spot changes no status
pub use Rattle.hap_ends.proofs.Telling.{bare_status}
