-- Rows that are cleared at the pivots of a reduced form, and vectors that are dual to the rows of another. F is the arithmetic of a field,
-- rows have n coordinates; rows, places and pivots count from 0.
--   IsForm F n rows                             a reduced row echelon form of some rows
--   ArePivots n rows pivots                     the pivots of such a form
--   front rows                                  its rows with pivots
--   IsSwept F n rows pivots upto w v            v is w less a combination of the rows, and zero at the first pivots
--   AreSwept F n rows pivots ws vs              so is each of the vs, at all of the pivots, for one of the ws
--   IsDual F n form pivots others places upto place v
--                                               v has the product 1 with the row of `others` at a place and 0 with those at the other
--                                               places, and 0 with the first rows of `form`; with the later ones the product that the mark
--                                               of the pivot of its own row has
use Rattle.std.specs.Prelude.{◌≡◌, ◌≢◌, ⊤, ℕ, ◌<◌, ◌≤◌, List, [], ◌∷◌, length, take, slice_index}
use Rattle.small_field.specs.Field.{Ops}
use Rattle.linear_laws.specs.Echelon.{IsReducedBelow, IsReducedTo, rank_of}
use Rattle.linear_laws.specs.Vectors.{dot, plus_scaled, row_at, InSpan, IsVector}

pub record IsForm (F : Ops) (n : ℕ) (rows : List (List ℕ)) : Type 0 where
  pub before : List (List ℕ)
  pub is : IsReducedTo F n (rank_of rows) n before rows

pub record ArePivots (n : ℕ) (rows : List (List ℕ)) (pivots : List ℕ) : Type 0 where
  pub reduced : IsReducedBelow n rows pivots
  pub many : length pivots ≡ rank_of rows

abbrev pub front : List (List ℕ) → List (List ℕ)
front rows = take (rank_of rows) rows

pub record IsSwept (F : Ops) (n : ℕ) (rows : List (List ℕ)) (pivots : List ℕ) (upto : ℕ) (w v : List ℕ) : Type 0 where
  pub vector : IsVector F n v
  pub difference : List ℕ
  pub inside : InSpan F n rows difference
  pub back : w ≡ plus_scaled F 1 difference v
  pub clear : (j : ℕ) → j < upto → slice_index v (slice_index pivots j) ≡ 0

abbrev pub AreSwept : Ops → (n : ℕ) → (rows : List (List ℕ)) → (pivots : List ℕ) → (ws vs : List (List ℕ)) → Type 0
AreSwept F n rows pivots [] [] = ⊤
AreSwept F n rows pivots [] (v ∷ vs) = ⊥
AreSwept F n rows pivots (w ∷ ws) [] = ⊥
AreSwept F n rows pivots (w ∷ ws) (v ∷ vs) = IsSwept F n rows pivots (length pivots) w v × AreSwept F n rows pivots ws vs

pub record IsDual (F : Ops) (n : ℕ) (form : List (List ℕ)) (pivots : List ℕ) (others : List (List ℕ)) (places : List ℕ) (upto place : ℕ) (v : List ℕ) : Type 0 where
  pub vector : IsVector F n v
  pub done : (j : ℕ) → j < upto → dot F (row_at form j) v ≡ 0
  pub left : (j : ℕ) → upto ≤ j → j < length pivots → dot F (row_at form j) v ≡ slice_index (row_at form j) (slice_index places place)
  pub own : dot F (row_at others place) v ≡ 1
  pub apart : (c : ℕ) → c < length places → c ≢ place → dot F (row_at others c) v ≡ 0
