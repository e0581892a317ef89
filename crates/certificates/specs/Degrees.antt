-- Lists of one list for each degree.
--   at lists degree   the list of a degree, none past the last
use Rattle.std.specs.Prelude.{ℕ, List, [], slice_index_or}

abbrev pub at : {A : Type 0} → List (List A) → (degree : ℕ) → List A
at lists degree = slice_index_or lists degree []
