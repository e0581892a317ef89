use Rattle.std.proofs.Common.{◌≡◌, drop}
use Rattle.gap_text.specs.Reading.{value_of}
use Rattle.gap_text.specs.Readers.{reader_of, rest}
use Rattle.gap_text.proofs.parse.Given as goal

-- what the reader makes of the bytes that are left is the value of the text
abbrev pub invariant-loop-place : goal.invariant-loop-place
invariant-loop-place l = rest (reader_of l.reader) l.place (drop l.place l.text) ≡ value_of l.text
