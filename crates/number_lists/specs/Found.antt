-- Different numbers in the order in which they were found, each with a mark. found is a list of them.
--   Numbers                    such a list, and the most that a number may be
--   IsMarked marks found       the marks are those of the numbers found, and none was found twice
--   inserted found n           n put last, if it is not there yet
--   inserted_all found ns      the numbers ns put last in the same way, one after another
use Rattle.std.specs.Prelude.{◌≡◌, ℕ, ◌-◌, ◌≤◌, List, [], ◌∷◌, ◌++◌, length, cond, slice_index_or, Bool, true, false, eqb}
use Rattle.std.specs.List.{IsDistinct}
use Rattle.number_lists.specs.Words.{holds}

-- the numbers are from 1 to `most`
pub record Numbers : Type 0 where
  pub most : ℕ
  pub found : List ℕ

pub record IsMarked (marks : List Bool) (found : List ℕ) : Type 0 where
  pub marked : (n : ℕ) → 1 ≤ n → n ≤ length marks → slice_index_or marks (n - 1) false ≡ holds found n
  pub within : (n : ℕ) → holds found n ≡ true → (1 ≤ n) × (n ≤ length marks)
  pub distinct : IsDistinct eqb found

abbrev pub inserted : List ℕ → ℕ → List ℕ
inserted found n = cond (holds found n) found (found ++ n ∷ [])

abbrev pub inserted_all : List ℕ → List ℕ → List ℕ
inserted_all found [] = found
inserted_all found (n ∷ ns) = inserted_all (inserted found n) ns
