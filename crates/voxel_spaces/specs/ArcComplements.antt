-- The complement of an arc presentation in a box: the cubical space of the voxels that stay.
--
-- The box of k rows has 2k + 1 by 2k + 1 by 5 voxels, with indices (x, y, z) from 0. Row r with the columns m < n takes away the voxels
-- with y = 2r - 1, z = 1 and x from 2m - 1 to 2n - 1, and the connectors (2m - 1, 2r - 1, 2) and (2n - 1, 2r - 1, 2). A column c that is
-- in the rows r < s takes away the voxels with x = 2c - 1, z = 3 and y from 2r - 1 to 2s - 1. Rows and columns are counted from 1.
-- (A knot that is laid out in two layers, horizontal arcs below vertical ones: textbook.)
-- p is the two columns of a row, rows the list of these.
--   box_of k               the sizes of the box of so many rows
--   at n                   the index of a row or of a column
--   any_row test n rows    whether one of the rows passes, which are numbered from n on
--   touches x p            whether one of the two columns is at x
--   by_row x y z r p       whether row r takes the voxel away: by its arc, or by its two connectors
--   row_up_to x y r p      whether row r is not above y and has the column at x
--   row_from x y r p       whether row r is not below y and has the column at x
--   is_taken rows x y z    whether the voxel is taken away: by a row, or by a column between two rows
--   stays rows t           whether the voxel with an index stays
--   complement_of rows     the space of the voxels that stay
--   arcs_space_of v        the space of the arc presentation that a value is, or its first fault
use Rattle.std.specs.Prelude.{ℕ, suc, ◌+◌, ◌-◌, ◌*◌, ◌==◌, ◌&&◌, ◌||◌, nat_le, min, max, not, List, [], ◌∷◌, length, filter, slice_index, Bool, false, Result}
use Rattle.gap_text.specs.Value.{Value}
use Rattle.face_poset.specs.Poset.{Layers}
use Rattle.array_values.specs.declared.fault.ArrayFault.{ArrayFault}
use Rattle.array_values.specs.Answers.{and_then}
use Rattle.array_values.specs.Arcs.{arcs_of}
use Rattle.tuple_spaces.specs.Voxels.{voxel_space}
use Rattle.tuple_spaces.specs.Tuples.{boxed}

abbrev pub box_of : (k : ℕ) → List ℕ
box_of k = (2 * k + 1) ∷ (2 * k + 1) ∷ 5 ∷ []

abbrev pub at : (n : ℕ) → ℕ
at n = 2 * n - 1

abbrev pub any_row : (ℕ → ℕ × ℕ → Bool) → (n : ℕ) → List (ℕ × ℕ) → Bool
any_row test n [] = false
any_row test n (p ∷ ps) = test n p || any_row test (suc n) ps

abbrev pub touches : (x : ℕ) → ℕ × ℕ → Bool
touches x p = (x == at p.0) || (x == at p.1)

abbrev pub by_row : (x y z r : ℕ) → ℕ × ℕ → Bool
by_row x y z r p =
    (y == at r) && (((z == 1) && (nat_le (at (min p.0 p.1)) x && nat_le x (at (max p.0 p.1)))) || ((z == 2) && touches x p))

abbrev pub row_up_to : (x y r : ℕ) → ℕ × ℕ → Bool
row_up_to x y r p = touches x p && nat_le (at r) y

abbrev pub row_from : (x y r : ℕ) → ℕ × ℕ → Bool
row_from x y r p = touches x p && nat_le y (at r)

abbrev pub is_taken : (rows : List (ℕ × ℕ)) → (x y z : ℕ) → Bool
is_taken rows x y z = any_row (by_row x y z) 1 rows || ((z == 3) && (any_row (row_up_to x y) 1 rows && any_row (row_from x y) 1 rows))

abbrev pub stays : (rows : List (ℕ × ℕ)) → List ℕ → Bool
stays rows t = not (is_taken rows (slice_index t 0) (slice_index t 1) (slice_index t 2))

abbrev pub complement_of : (rows : List (ℕ × ℕ)) → Result Layers ArrayFault
complement_of rows = voxel_space (box_of (length rows)) (filter (stays rows) (boxed (box_of (length rows))))

abbrev pub arcs_space_of : Value → Result Layers ArrayFault
arcs_space_of v = and_then (arcs_of v) complement_of
