use Rattle.std.proofs.Common.{◌≡◌, option_map}
use Rattle.std.specs.List.{slice_get}
use Rattle.cert_lines.specs.Pieces.{words_left, room}
use Rattle.cert_lines.specs.Listed.{numbers_of, numbers_in}
use Rattle.cert_lines.proofs.line.number_at.Given as goal

abbrev pub invariant-words : goal.invariant-words
invariant-words l = slice_get (numbers_of (words_left (option_map (λ s. s.now) l.rest))) l.left ≡ slice_get (numbers_in l.line) l.fn.place

abbrev pub decreases-words : goal.decreases-words
decreases-words l = room (option_map (λ s. s.now) l.rest)
