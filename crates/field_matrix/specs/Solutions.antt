-- Solutions of linear equations, and rows that complete a basis. k is the arithmetic of a field; rows have n coordinates.
--   IsAnswer k n rows v answer         coefficients of the rows whose combination is v, or none where there are none
--   IsElimination k n rows reduced history
--                                      a reduced form of the rows, and how it came about
--   rows_at rows places                the rows at these places
--   IsComplement k n sub rows places   increasing places of rows that with each basis of the rows of `sub` are a basis of both
--   above s places                     the places from s on, counted from there
use Rattle.std.specs.Prelude.{◌≡◌, ℕ, ◌<◌, ◌-◌, nat_lt, if◌then◌else◌, List, [], ◌∷◌, ◌++◌, length, map, All, Option, Some, None}
use Rattle.std.specs.List.Sorted.{IsStrictlyIncreasing}
use Rattle.small_field.specs.Field.{Ops}
use Rattle.linear_laws.specs.Vectors.{IsVector, IsMatrix, combination, InSpan, IsBasis, IsHistory, row_at}
use Rattle.linear_laws.specs.Echelon.{IsReducedTo, rank_of}

abbrev pub IsAnswer : Ops → ℕ → List (List ℕ) → List ℕ → Option (List ℕ) → Type 0
IsAnswer k n rows v (Some cs) = IsVector k (length rows) cs × (combination k n cs rows ≡ v)
IsAnswer k n rows v None = InSpan k n rows v → ⊥

pub record IsElimination (k : Ops) (n : ℕ) (rows reduced history : List (List ℕ)) : Type 0 where
  pub is_matrix : IsMatrix k n rows
  pub is_reduced : IsReducedTo k n (rank_of reduced) n rows reduced
  pub is_history : IsHistory k n rows reduced history

abbrev pub rows_at : List (List ℕ) → List ℕ → List (List ℕ)
rows_at rows places = map (row_at rows) places

pub record IsComplement (k : Ops) (n : ℕ) (sub rows : List (List ℕ)) (places : List ℕ) : Type 0 where
  pub increasing : IsStrictlyIncreasing places
  pub below : All (λ p. p < length rows) places
  pub basis : (bs : List (List ℕ)) → IsBasis k n sub bs → IsBasis k n (sub ++ rows) (bs ++ rows_at rows places)

abbrev pub above : ℕ → List ℕ → List ℕ
above s [] = []
above s (p ∷ ps) = if nat_lt p s then above s ps else ((p - s) ∷ above s ps)
