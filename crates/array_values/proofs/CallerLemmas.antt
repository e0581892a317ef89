-- What other crates may cite of the proofs here.

-- where answers one after another give a value, the first gives one too
pub use Rattle.array_values.proofs.Gather.{both_ok}
