-- What other crates may cite of the proofs here.

-- each test of a list holds, of two lists joined; and no refusal
pub use Rattle.cert_laws.proofs.Passing.{AllHold, hold-append, hold-left, hold-right, hold-from, from-hold}
