-- What other crates may cite of the proofs here.

-- texts one after another in calls that write: writes_next puts one behind what was written, writes_last the last one,
-- writes_stop tells what was written where the first fails, writes_break where a later one fails
pub use Rattle.hap_outside.proofs.Writing.{writes_next, writes_last, writes_stop, writes_break}
-- the same behind a buffer that gathers: gathers_next, gathers_fail (the first fails), gathers_break (a later one fails)
pub use Rattle.hap_outside.proofs.Gathering.{gathers_nothing, gathers_next, gathers_fail, gathers_break}
-- from what was gathered to what was written, once the rest is handed on, or where a text failed
pub use Rattle.hap_outside.proofs.Gathering.{writes_all_put, writes_some_put}
