-- The lexicographic order of sequences of numbers.
--   Before xs ys      xs comes before ys: a proper prefix first, else the smaller number at the first difference
--   IsOrdered chains  each comes before all that follow it, so that none stands twice
use Rattle.std.specs.Prelude.{◌≡◌, ℕ, ◌<◌, ◌⊎◌, ⊤, List, [], ◌∷◌}
use Rattle.std.specs.List.{AllByRecursion}

-- a proper prefix comes first, else the smaller number at the first difference
abbrev pub Before : List ℕ → List ℕ → Type 0
Before [] [] = ⊥
Before [] (y ∷ ys) = ⊤
Before (x ∷ xs) [] = ⊥
Before (x ∷ xs) (y ∷ ys) = (x < y) ⊎ ((x ≡ y) × Before xs ys)

-- each comes before all that follow it, so that none stands twice
abbrev pub IsOrdered : List (List ℕ) → Type 0
IsOrdered [] = ⊤
IsOrdered (x ∷ xs) = AllByRecursion (Before x) xs × IsOrdered xs
