-- Reduced row echelon forms. Rows, places and columns count from 0.
--   IsReducedBelow n rows pivots               the first n columns are in reduced echelon form: row i has a 1 at place i of the pivots, alone
--                                              in its column and the first in its row; rows without a pivot are zero there
--   IsReducedTo k cols rank col before after   the rows `after` span what `before` did, and are reduced below the column col, with so many pivots
--   IsReduced n rows                           rows of n entries are in reduced row echelon form
--   is_nonzero row                             some entry is not zero
--   rank_of rows                               how many rows are not zero: in a reduced form, the rank
use Rattle.std.specs.Prelude.{◌≡◌, ◌≢◌, ℕ, ◌<◌, ◌≤◌, ◌==◌, Bool, not, List, length, count_by, slice_index}
use Rattle.std.specs.List.{list_any}
use Rattle.small_field.specs.Field.{Ops}
use Rattle.linear_laws.specs.Vectors.{IsMatrix, SameSpan, entry}

pub record IsReducedBelow (n : ℕ) (rows : List (List ℕ)) (pivots : List ℕ) : Type 0 where
  pub few : length pivots ≤ length rows
  pub within : (i : ℕ) → i < length pivots → slice_index pivots i < n
  pub rising : (i j : ℕ) → i < j → j < length pivots → slice_index pivots i < slice_index pivots j
  pub one : (i : ℕ) → i < length pivots → entry rows i (slice_index pivots i) ≡ 1
  pub alone : (i j : ℕ) → i < length pivots → j < length rows → j ≢ i → entry rows j (slice_index pivots i) ≡ 0
  pub first : (i j : ℕ) → i < length pivots → j < slice_index pivots i → entry rows i j ≡ 0
  pub zero : (i j : ℕ) → length pivots ≤ i → i < length rows → j < n → entry rows i j ≡ 0

pub record IsReducedTo (k : Ops) (cols rank col : ℕ) (before after : List (List ℕ)) : Type 0 where
  pub matrix : IsMatrix k cols after
  pub long : length after ≡ length before
  pub span : SameSpan k cols before after
  pub pivots : List ℕ
  pub rank_is : length pivots ≡ rank
  pub reduced : IsReducedBelow col after pivots

abbrev pub is_nonzero : List ℕ → Bool
is_nonzero row = list_any (λ x. not (x == 0)) row

abbrev pub rank_of : List (List ℕ) → ℕ
rank_of rows = count_by is_nonzero rows

pub record IsReduced (n : ℕ) (rows : List (List ℕ)) : Type 0 where
  pub pivots : List ℕ
  pub reduced : IsReducedBelow n rows pivots
