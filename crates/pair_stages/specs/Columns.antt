-- Columns of a matrix, as the code keeps them: each by cells of the lower degree, numbered from 1, and their coefficients. cells and
-- values are one column, columns and values of lists are all of them, y and b lists of numbers by place.
--   Parts                                  the columns: the cells of each, and their coefficients
--   coefficient cells values cell          the coefficient of a cell in a column, or 0
--   row_from columns values cell           its coefficients in all columns
--   rows_from below columns values         the rows of the cells from 1 to `below`
--   sum_on F cells values y                the sum of the coefficients, each times the number of y at its cell
--   add_on F cells values factor b         b with a factor times the coefficients added at their cells
--   IsColumn F below cells values          different cells from 1 to `below`, each with an element
--   AreColumns F below columns values      the same for each column
use Rattle.std.specs.Prelude.{◌≡◌, ⊤, ℕ, ◌-◌, ◌≤◌, ◌<◌, ◌==◌, List, [], ◌∷◌, false, cond, map, slice_index}
use Rattle.small_field.specs.Field.{Ops}
use Rattle.linear_laws.specs.Vectors.{bump}
use Rattle.face_poset.specs.Words.{upto, holds}

pub record Parts : Type 0 where
  pub cells : List (List ℕ)
  pub values : List (List ℕ)

abbrev pub coefficient : (cells values : List ℕ) → (cell : ℕ) → ℕ
coefficient [] vs cell = 0
coefficient (c ∷ cs) [] cell = 0
coefficient (c ∷ cs) (v ∷ vs) cell = cond (c == cell) v (coefficient cs vs cell)

abbrev pub row_from : (columns values : List (List ℕ)) → (cell : ℕ) → List ℕ
row_from [] vss cell = []
row_from (cs ∷ columns) [] cell = []
row_from (cs ∷ columns) (vs ∷ vss) cell = coefficient cs vs cell ∷ row_from columns vss cell

abbrev pub rows_from : (below : ℕ) → (columns values : List (List ℕ)) → List (List ℕ)
rows_from below columns vss = map (row_from columns vss) (upto below)

abbrev pub sum_on : Ops → (cells values : List ℕ) → List ℕ → ℕ
sum_on F [] vs y = 0
sum_on F (c ∷ cs) [] y = 0
sum_on F (c ∷ cs) (v ∷ vs) y = F.add (F.mul v (slice_index y (c - 1))) (sum_on F cs vs y)

abbrev pub add_on : Ops → (cells values : List ℕ) → (factor : ℕ) → List ℕ → List ℕ
add_on F [] vs factor b = b
add_on F (c ∷ cs) [] factor b = b
add_on F (c ∷ cs) (v ∷ vs) factor b = add_on F cs vs factor (bump F b (c - 1) (F.mul factor v))

abbrev pub IsColumn : Ops → (below : ℕ) → (cells values : List ℕ) → Type 0
IsColumn F below [] [] = ⊤
IsColumn F below [] (v ∷ vs) = ⊥
IsColumn F below (c ∷ cs) [] = ⊥
IsColumn F below (c ∷ cs) (v ∷ vs) = (1 ≤ c) × (c ≤ below) × (v < F.size) × (holds cs c ≡ false) × IsColumn F below cs vs

abbrev pub AreColumns : Ops → (below : ℕ) → (columns values : List (List ℕ)) → Type 0
AreColumns F below [] [] = ⊤
AreColumns F below [] (vs ∷ vss) = ⊥
AreColumns F below (cs ∷ columns) [] = ⊥
AreColumns F below (cs ∷ columns) (vs ∷ vss) = IsColumn F below cs vs × AreColumns F below columns vss
