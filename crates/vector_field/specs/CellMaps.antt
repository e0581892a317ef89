-- Numbers at the cells of each dimension. cells is a list of such numbers by dimension and cell; cells are numbered from 1.
--   row cells dim                      the numbers at the cells of a dimension
--   at cells dim cell                  the number at a cell, if there is one
--   IsPut old dim cell number new      a number is put at one cell
use Rattle.std.specs.Prelude.{◌≡◌, ℕ, ◌-◌, ◌≤◌, ◌&&◌, ◌==◌, List, [], cond, slice_index_or, Option, Some, None}

abbrev pub row : List (List (Option ℕ)) → (dim : ℕ) → List (Option ℕ)
row cells dim = slice_index_or cells dim []

abbrev pub at : List (List (Option ℕ)) → (dim cell : ℕ) → Option ℕ
at cells dim cell = slice_index_or (row cells dim) (cell - 1) None

abbrev pub IsPut : (old : List (List (Option ℕ))) → (dim cell number : ℕ) → (new : List (List (Option ℕ))) → Type 0
IsPut old dim cell number new = (d n : ℕ) → 1 ≤ n → at new d n ≡ cond ((dim == d) && (cell == n)) (Some number) (at old d n)
