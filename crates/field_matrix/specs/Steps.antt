-- The steps of an elimination. k is the arithmetic of a field; rows and columns count from 0, and `rank` is the number of pivots so far.
--   IsPivotRow rows rank col                      row `rank` begins with a 1 at the column
--   IsBroughtUp k cols rank col before after      the rows before `rank` stay, the others are zero before the column, row `rank` has a 1 there
--   IsCleared k cols rank col upto before after   what clearing a column leaves in the rows before `upto`, where row `rank` is the pivot row
--   ZeroBelow rank col rows                       the rows from `rank` on are zero before the column
--   ZerosBetween rows rank begin col              they are zero from the column `begin` on before the column
--   IsNextPivot rows rank begin upto row col      the column is the first from `begin` on, before `upto`, at which one of them is not zero,
--                                                 and the row the first such row
--   IsReducedBy width rank rows                   the first `rank` rows have pivots in the first `width` columns, in reduced row echelon form
--   IsSwept k cols width rows history before after told
--                                                 a row to which a combination of the rows was added, and the same combination of their history
--   IsClearAt upto rows row                       zero in the first column that is not zero of each of the first `upto` rows
use Rattle.std.specs.Prelude.{◌≡◌, ◌≢◌, ℕ, ◌<◌, ◌≤◌, List, Some, length, slice_index}
use Rattle.lane_rows.specs.Lanes.{first_place}
use Rattle.small_field.specs.Field.{Ops}
use Rattle.linear_laws.specs.Vectors.{IsVector, IsMatrix, SameSpan, combination, plus_scaled, row_at, entry}
use Rattle.linear_laws.specs.Echelon.{IsReducedBelow}

pub record IsCleared (k : Ops) (cols rank col upto : ℕ) (before after : List (List ℕ)) : Type 0 where
  pub matrix : IsMatrix k cols after
  pub long : length after ≡ length before
  pub span : SameSpan k cols before after
  pub kept : row_at after rank ≡ row_at before rank
  pub earlier : (i j : ℕ) → j < col → entry after i j ≡ entry before i j
  pub clear : (i : ℕ) → i < upto → i < length before → i ≢ rank → entry after i col ≡ 0

pub record IsPivotRow (rows : List (List ℕ)) (rank col : ℕ) : Type 0 where
  pub one : entry rows rank col ≡ 1
  pub first : (j : ℕ) → j < col → entry rows rank j ≡ 0

pub record IsBroughtUp (k : Ops) (cols rank col : ℕ) (before after : List (List ℕ)) : Type 0 where
  pub matrix : IsMatrix k cols after
  pub long : length after ≡ length before
  pub span : SameSpan k cols before after
  pub above : (i : ℕ) → i < rank → row_at after i ≡ row_at before i
  pub below : (i j : ℕ) → rank ≤ i → i < length before → j < col → entry after i j ≡ 0
  pub one : entry after rank col ≡ 1

abbrev pub ZeroBelow : ℕ → ℕ → List (List ℕ) → Type 0
ZeroBelow rank col rows = (i j : ℕ) → rank ≤ i → i < length rows → j < col → entry rows i j ≡ 0

abbrev pub ZerosBetween : List (List ℕ) → (rank begin col : ℕ) → Type 0
ZerosBetween rows rank begin col = (i j : ℕ) → rank ≤ i → i < length rows → begin ≤ j → j < col → entry rows i j ≡ 0

pub record IsNextPivot (rows : List (List ℕ)) (rank begin upto row col : ℕ) : Type 0 where
  pub low : rank ≤ row
  pub within : row < length rows
  pub after : begin ≤ col
  pub before : col < upto
  pub nonzero : entry rows row col ≢ 0
  pub first : (i : ℕ) → rank ≤ i → i < row → entry rows i col ≡ 0
  pub zeros : ZerosBetween rows rank begin col

pub record IsReducedBy (width rank : ℕ) (rows : List (List ℕ)) : Type 0 where
  pub pivots : List ℕ
  pub rank_is : length pivots ≡ rank
  pub reduced : IsReducedBelow width rows pivots

pub record IsSwept (k : Ops) (cols width : ℕ) (rows history : List (List ℕ)) (before after told : List ℕ) : Type 0 where
  pub coefficients : List ℕ
  pub vector : IsVector k (length rows) coefficients
  pub is : after ≡ plus_scaled k 1 before (combination k cols coefficients rows)
  pub told_is : told ≡ combination k width coefficients history

abbrev pub IsClearAt : ℕ → List (List ℕ) → List ℕ → Type 0
IsClearAt upto rows row = (a p : ℕ) → a < upto → first_place (row_at rows a) ≡ Some p → slice_index row p ≡ 0
