-- Matrices as contracts see them, and as the code keeps them: row after row in one list.
--   Rows                      a matrix: the number of columns, and the rows, each a list of numbers of elements
--   cut n c xs                the first n rows of c numbers of a list that has them one after the other
--   rows_in shape xs         the rows of a shape that stand one after the other in a list
--   IsFilled k rows cols xs   xs are the entries, elements, of so many rows and columns
use Rattle.std.specs.Prelude.{◌≡◌, ℕ, zero, suc, ◌*◌, List, [], ◌∷◌, length, take, drop}
use Rattle.small_field.specs.Field.{Ops}
use Rattle.small_field.specs.Values.{AreElements}
use Rattle.field_matrix.specs.declared.flat.Shape.{Shape}

abbrev pub cut : ℕ → ℕ → List ℕ → List (List ℕ)
cut zero c xs = []
cut (suc n) c xs = take c xs ∷ cut n c (drop c xs)

abbrev pub rows_in : Shape → List ℕ → List (List ℕ)
rows_in shape xs = cut shape.rows shape.cols xs

pub record Rows : Type 0 where
  pub cols : ℕ
  pub rows : List (List ℕ)

pub record IsFilled (k : Ops) (rows cols : ℕ) (entries : List ℕ) : Type 0 where
  pub long : length entries ≡ rows * cols
  pub elements : AreElements k entries
