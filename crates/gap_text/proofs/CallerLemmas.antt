-- What other crates may cite of the proofs here.
-- a text that the grammar gives a value has that value
pub use Rattle.gap_text.proofs.Joined.{value_of-spelled}
-- a number, printed in decimal digits, is lexed as that number
pub use Rattle.gap_text.proofs.Printed.{lexes-decimal}
