-- What other crates may cite of the proofs here.

-- a line from what it says in a version, and back
pub use Rattle.certificates.proofs.FormLemmas.{form-is, form-back}
-- bytes without one of them, in std's words; a line that has a form has no line feed in it
pub use Rattle.certificates.proofs.Words.{Without, split-joined}
pub use Rattle.certificates.proofs.FormLemmas.{feedless}
-- a number from its word, and back; a token from its text
pub use Rattle.certificates.proofs.NumberLemmas.{number-is, number-back}
pub use Rattle.certificates.proofs.Words.{token-back, bytes-same}
-- the words of a line that has a form; the word that tells a kind
pub use Rattle.certificates.proofs.FormLemmas.{plain-words, placed-text}
pub use Rattle.certificates.proofs.PartLemmas.{kind-is}
-- a spot and the rows of a table from their text
pub use Rattle.certificates.proofs.PlacedLemmas.{spot-written, table-written}
-- what a value that may be `None` is made of
pub use Rattle.certificates.proofs.Somes.{both_some, tested, and_parts}
