-- Of each cell of a dimension the list of those facets that have the sign -1. space is the lists of a space, n a
-- number of cells.
--   first_lists space n            the lists of the first edges, so many
--   back_lists space n             those of the first 2-cells
--   IsAlong space cell minus       the list of a 3-cell: what has -1 along a collapse of its boundary less its first
--                                  2-cell
--   AreAlong space n lists         the lists of the first 3-cells are so
--   signed_by_lists space edges disks solids    the space with these lists
--   IsKept signed                  the lists are those of an oriented space: one a cell, and they rise
use Rattle.std.specs.Prelude.{◌≡◌, ℕ, ◌-◌, ◌≤◌, List, [], ◌∷◌, true, length, map, filter, slice_index, slice_index_or}
use Rattle.std.specs.List.Sorted.{IsStrictlyIncreasing}
use Rattle.number_lists.specs.Words.{upto}
use Rattle.face_poset.specs.declared.cells.Pair.{Pair}
use Rattle.face_poset.specs.Poset.{Layers, count, facets_of}
use Rattle.regular_check.specs.Cycle.{cycle}
use Rattle.sphere_collapses.specs.Collapses.{collapses, boundary_less}
use Rattle.sphere_collapses.specs.Spheres.{first_end}
use Rattle.cell_signs.specs.Oriented.{SignedSpace, IsOriented, negative_in}
use Rattle.cell_signs.specs.Along.{goes_back, solid_negative}

abbrev pub first_lists : Layers → (n : ℕ) → List (List ℕ)
first_lists space n = map (λ edge. first_end space edge ∷ []) (upto n)

abbrev pub back_lists : Layers → (n : ℕ) → List (List ℕ)
back_lists space n = map (λ cell. filter (goes_back (cycle space cell)) (facets_of space 2 cell)) (upto n)

pub record IsAlong (space : Layers) (cell : ℕ) (minus : List ℕ) : Type 0 where
  pub pairs : List Pair
  pub collapse : collapses space (boundary_less space cell (slice_index (facets_of space 3 cell) 0)) pairs ≡ true
  pub minus_is : minus ≡ filter (solid_negative space cell pairs) (facets_of space 3 cell)

pub record AreAlong (space : Layers) (n : ℕ) (lists : List (List ℕ)) : Type 0 where
  pub long : length lists ≡ n
  pub each : (cell : ℕ) → 1 ≤ cell → cell ≤ n → IsAlong space cell (slice_index_or lists (cell - 1) [])

abbrev pub signed_by_lists : Layers → (edges disks solids : List (List ℕ)) → SignedSpace
signed_by_lists space edges disks solids = record { space = space; minus = [] ∷ edges ∷ disks ∷ solids ∷ [] }

pub record IsKept (signed : SignedSpace) : Type 0 where
  pub oriented : IsOriented signed.space (negative_in signed)
  pub long : (dim : ℕ) → 1 ≤ dim → count signed.minus dim ≡ count signed.space dim
  pub rises : (dim cell : ℕ) → IsStrictlyIncreasing (facets_of signed.minus dim cell)
