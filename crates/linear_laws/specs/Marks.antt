-- Unit vectors, and rows put side by side.
--   mark n i             n numbers, 1 at place i, from 0, and 0 elsewhere
--   identity n           the marks of the places below n, in order
--   shifted rows         0 before each row
--   beside rows others   each row followed by a row of others
--   lefts m rows         the first m entries of each row
--   rights m rows        the entries of each row after the first m
use Rattle.std.specs.Prelude.{ℕ, zero, suc, List, [], ◌∷◌, ◌++◌, map, take, drop, replicate, set}

abbrev pub mark : ℕ → ℕ → List ℕ
mark n i = set (replicate n 0) i 1

abbrev pub shifted : List (List ℕ) → List (List ℕ)
shifted [] = []
shifted (z ∷ zs) = (0 ∷ z) ∷ shifted zs

abbrev pub identity : ℕ → List (List ℕ)
identity zero = []
identity (suc n) = (1 ∷ replicate n 0) ∷ shifted (identity n)

abbrev pub beside : List (List ℕ) → List (List ℕ) → List (List ℕ)
beside [] others = []
beside (r ∷ rows) [] = []
beside (r ∷ rows) (s ∷ others) = (r ++ s) ∷ beside rows others

abbrev pub lefts : ℕ → List (List ℕ) → List (List ℕ)
lefts m rows = map (take m) rows

abbrev pub rights : ℕ → List (List ℕ) → List (List ℕ)
rights m rows = map (drop m) rows
