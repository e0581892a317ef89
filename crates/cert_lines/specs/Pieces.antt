-- What is left of a text that is cut at a separator.
--   pieces_left c rest    the pieces of what is left, if anything is left
--   words_left rest       the same for a line that is cut at its spaces
--   room rest             a number that falls with each piece taken
use Rattle.std.specs.Prelude.{ℕ, ◌+◌, ◌==◌, List, [], length, Option, Some, None}
use Rattle.std.specs.List.{slice_split}

abbrev pub pieces_left : (c : ℕ) → Option (List ℕ) → List (List ℕ)
pieces_left c None = []
pieces_left c (Some text) = slice_split (λ b. b == c) text

abbrev pub words_left : Option (List ℕ) → List (List ℕ)
words_left rest = pieces_left 32 rest

abbrev pub room : Option (List ℕ) → ℕ
room None = 0
room (Some text) = length text + 1
