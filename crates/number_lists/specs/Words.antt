-- Words on lists of numbers. n and x are numbers, xs a list.
--   upto n          the numbers from 1 to n
--   holds xs x      whether x is in xs
use Rattle.std.specs.Prelude.{ℕ, List, Bool, ◌==◌}
use Rattle.std.specs.List.{list_any, range_with_len}

abbrev pub upto : ℕ → List ℕ
upto n = range_with_len 1 n

abbrev pub holds : List ℕ → ℕ → Bool
holds xs x = list_any (λ y. y == x) xs
