-- What other crates may cite of the proofs here.

-- the numbers and the two lists of a line, by what it says
pub use Rattle.cert_lines.proofs.WordLemmas.{numbers-told, lists-told, numbers-rest}
-- a text cut at the first such byte, and one without it
pub use Rattle.cert_lines.proofs.CutLemmas.{IsCut, cut-none, cut-some}
-- the number, the spot and the table of a line, by what it says
pub use Rattle.cert_lines.proofs.PlacedSaid.{sheets-said, cover-said, spent-said}
-- rows that fit are those of their cells, and cells that fit have rows
pub use Rattle.cert_lines.proofs.TableRows.{rows-there, rows-back}
-- a line with more behind it
pub use Rattle.cert_lines.proofs.LineLemmas.{two_pieces}
-- what a reader of one line answers of a line that is taken or refused, and the numbers of a line of a kind
pub use Rattle.cert_lines.proofs.TakenLemmas.{if_kind, plain-of, of-kind, no-kind, taken-is, refused-is, numbers-taken, numbers-refused}
