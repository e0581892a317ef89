-- Sums of letters, as the loops carry them. measured are cells with words.
--   letters_in measured         how many letters the words have together
--   IsCounted old measured new  where the words before have `old` letters none of these is too long, and with them
--                               there are `new`
use Rattle.std.specs.Prelude.{◌≡◌, ℕ, ◌+◌, ◌≤◌, ℤ, List, [], ◌∷◌, length, None}
use Rattle.face_poset.specs.declared.cells.Cell.{Cell}
use Rattle.edge_words.specs.Limits.{first_long, most_letters_in_all}

abbrev pub letters_in : List (Cell × List ℤ) → ℕ
letters_in [] = 0
letters_in ((cell, word) ∷ more) = length word + letters_in more

pub record IsCounted (old : ℕ) (measured : List (Cell × List ℤ)) (new : ℕ) : Type 0 where
  pub short : first_long old measured ≡ None
  pub sum : new ≡ old + letters_in measured
  pub within : new ≤ most_letters_in_all
