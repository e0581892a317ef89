-- The flags of cells, and how their boundaries are built up. space is the lists of a regular space; a cell is written
-- by its id, which counts all cells from 1, vertices first; numbers count the cells of a dimension from 1. edge, disk
-- and solid are numbers, f is the id of a facet; collapse solid face is a collapse of the boundary of a 3-cell less
-- one of its 2-cells.
--   dim_at space id, number_at space id    the dimension of a cell, and its number
--   is_below space x c                 whether the cell x is a proper face of the cell c
--   flag_of space dim number           the tower of first facets: the cell, its first facet, the first facet of that,
--                                      and so on
--   flag_at space id                   the same of a cell by its id
--   FlagsAreFull                       the flag of each cell has a cell of each dimension, each a face of the one before
--   edge_building space edge f         of an edge: the other vertex, and no pairs
--   steps_after edge steps             the steps that follow the one along an edge
--   steps_before edge steps            those that come before it
--   steps_from space disk f            the cycle of a 2-cell from the edge f on, without it
--   disk_building space disk f         of a 2-cell: the vertex where these steps begin; each of them puts on its end
--                                      and its edge
--   left_over rest pairs               what is left of a list of cells without those of the pairs
--   solid_building space solid face pairs      of a 3-cell: the vertex that a collapse leaves, and its pairs in reverse
--   building_at space collapse g f     the building of the boundary of a cell without one facet
--   pairs_inside space collapse dim number     the pairs of towers inside a cell, which leave over its flag
--   IsCollapsing space collapse        each collapse is one of the boundary of its 3-cell less its 2-cell
--   SpacesAreFlagged                   in a regular space faces have smaller dimensions, flags are full, and along
--                                      collapses of the 3-cells the buildings build up the boundaries
--   CellsLeaveOver                     so the pairs inside each cell leave over its flag alone
use Rattle.std.specs.Prelude.{◌≡◌, ℕ, zero, suc, ◌-◌, ◌≤◌, ◌==◌, nat_le, if◌then◌else◌, List, [], ◌∷◌, ◌++◌, map, reverse, slice_index, Bool, true}
use Rattle.number_lists.specs.Words.{holds}
use Rattle.face_poset.specs.declared.cells.Cell.{Cell}
use Rattle.face_poset.specs.declared.cells.Pair.{Pair}
use Rattle.face_poset.specs.Poset.{Layers, IsSpace, count, facets_of}
use Rattle.face_poset.specs.Below.{cell_at}
use Rattle.regular_check.specs.declared.cycles.Step.{Step}
use Rattle.regular_check.specs.Rules.{IsRegular}
use Rattle.regular_check.specs.Cycle.{cycle, start_of, end_of}
use Rattle.sphere_collapses.specs.Collapses.{lower_of, upper_of, without, boundary_less, collapses}
use Rattle.sphere_collapses.specs.Laws.{IsFaceOf}
use Rattle.sphere_collapses.specs.Spheres.{first_end, last_end}
use Rattle.order_complex.specs.Chains.{cells_before, id_of, faces_of}
use Rattle.local_field.specs.Towers.{Building, TowerPair, local}
use Rattle.local_field.specs.Inside.{IsFull, IsFlagged, LeavesOver}

abbrev pub dim_at : Layers → (id : ℕ) → ℕ
dim_at space id =
    if nat_le id (cells_before space 1)
    then 0
    else if nat_le id (cells_before space 2)
    then 1
    else if nat_le id (cells_before space 3)
    then 2
    else if nat_le id (cells_before space 4) then 3 else 0

abbrev pub number_at : Layers → (id : ℕ) → ℕ
number_at space id = id - cells_before space (dim_at space id)

abbrev pub is_below : Layers → (x c : ℕ) → Bool
is_below space x c = holds (faces_of space (dim_at space c) (number_at space c)) x

abbrev pub flag_of : Layers → (dim number : ℕ) → List ℕ
flag_of space zero number = id_of space (cell_at zero number) ∷ []
flag_of space (suc dim) number =
    id_of space (cell_at (suc dim) number) ∷ flag_of space dim (slice_index (facets_of space (suc dim) number) 0)

abbrev pub flag_at : Layers → (id : ℕ) → List ℕ
flag_at space id = flag_of space (dim_at space id) (number_at space id)

abbrev pub FlagsAreFull : Type 0
FlagsAreFull =
    (space : Layers) (dim number : ℕ)
    → IsSpace space
    → dim ≤ 3
    → 1 ≤ number
    → number ≤ count space dim
    → IsFull (is_below space) (dim_at space) (flag_of space dim number)

abbrev pub edge_building : Layers → (edge f : ℕ) → Building
edge_building space edge f =
    record { root = if first_end space edge == f then last_end space edge else first_end space edge; pairs = [] }

abbrev pub steps_after : (edge : ℕ) → List Step → List Step
steps_after edge [] = []
steps_after edge (s ∷ steps) = if s.edge == edge then steps else steps_after edge steps

abbrev pub steps_before : (edge : ℕ) → List Step → List Step
steps_before edge [] = []
steps_before edge (s ∷ steps) = if s.edge == edge then [] else s ∷ steps_before edge steps

abbrev pub steps_from : Layers → (disk f : ℕ) → List Step
steps_from space disk f =
    steps_after (number_at space f) (cycle space disk) ++ steps_before (number_at space f) (cycle space disk)

abbrev pub disk_building : Layers → (disk f : ℕ) → Building
disk_building space disk f =
    record {
      root = slice_index (map (start_of space) (steps_from space disk f)) 0;
      pairs = map (λ s. (end_of space s, id_of space (cell_at 1 s.edge))) (steps_from space disk f);
    }

abbrev pub left_over : List Cell → List Pair → List Cell
left_over rest [] = rest
left_over rest (p ∷ pairs) = left_over (without rest p) pairs

abbrev pub solid_building : Layers → (solid face : ℕ) → List Pair → Building
solid_building space solid face pairs =
    record {
      root = slice_index (map (λ (c : Cell). c.number) (left_over (boundary_less space solid face) pairs)) 0;
      pairs = reverse (map (λ p. (id_of space (lower_of p), id_of space (upper_of p))) pairs);
    }

abbrev pub building_at : Layers → (collapse : (solid face : ℕ) → List Pair) → (g f : ℕ) → Building
building_at space collapse g f =
    if dim_at space g == 1
    then edge_building space (number_at space g) f
    else if dim_at space g == 2
    then disk_building space (number_at space g) f
    else solid_building space (number_at space g) (number_at space f) (collapse (number_at space g) (number_at space f))

abbrev pub pairs_inside : Layers → (collapse : (solid face : ℕ) → List Pair) → (dim number : ℕ) → List TowerPair
pairs_inside space collapse dim number =
    local (building_at space collapse) (flag_at space) 3 (flag_of space dim number)

abbrev pub IsCollapsing : Layers → (collapse : (solid face : ℕ) → List Pair) → Type 0
IsCollapsing space collapse =
    (solid face : ℕ)
    → IsFaceOf space solid face
    → collapses space (boundary_less space solid face) (collapse solid face) ≡ true

abbrev pub SpacesAreFlagged : Type 0
SpacesAreFlagged =
    (space : Layers) (collapse : (solid face : ℕ) → List Pair)
    → IsSpace space
    → IsRegular space
    → IsCollapsing space collapse
    → IsFlagged (is_below space) (dim_at space) (building_at space collapse) (flag_at space)

abbrev pub CellsLeaveOver : Type 0
CellsLeaveOver =
    (space : Layers) (collapse : (solid face : ℕ) → List Pair) (dim number : ℕ)
    → IsSpace space
    → IsRegular space
    → IsCollapsing space collapse
    → dim ≤ 3
    → 1 ≤ number
    → number ≤ count space dim
    → LeavesOver (is_below space) (dim_at space) (flag_of space dim number) (pairs_inside space collapse dim number)
