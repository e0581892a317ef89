-- Lists of elements, and their entries that are not 0. F is the arithmetic of a field, xs a list of numbers.
--   AreElements F xs    each number is that of an element
--   AreValues F xs      elements, so many that 32 bits count them
--   entry_of n x        the value x with the number n, unless it is 0
--   entries_from n xs   the values that are not 0, each with its number; the first has the number n
use Rattle.std.specs.Prelude.{ℕ, ◌+◌, ◌<◌, ◌^◌, ◌==◌, List, [], ◌∷◌, ◌++◌, cond, length}
use Rattle.std.specs.List.{AllByRecursion}
use Rattle.small_field.specs.Field.{Ops}

abbrev pub AreElements : Ops → List ℕ → Type 0
AreElements F xs = AllByRecursion (λ x. x < F.size) xs

pub record AreValues (F : Ops) (xs : List ℕ) : Type 0 where
  pub elements : AreElements F xs
  pub few : length xs < 2 ^ 32

abbrev pub entry_of : ℕ → ℕ → List (ℕ × ℕ)
entry_of n x = cond (x == 0) [] ((n, x) ∷ [])

abbrev pub entries_from : ℕ → List ℕ → List (ℕ × ℕ)
entries_from n [] = []
entries_from n (x ∷ xs) = entry_of n x ++ entries_from (n + 1) xs
