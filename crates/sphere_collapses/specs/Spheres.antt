-- The boundary of a 3-cell of a regular space as a sphere of vertices, edges and 2-cells, by their numbers from 1. space is the lists of
-- the space, cell a 3-cell, e an edge, c a 2-cell.
--   edges_below space cell         the edges below the 3-cell, in increasing order
--   vertices_below space cell      its vertices
--   first_end, last_end space e    the two ends of an edge
--   first_side, last_side space cell e    the two 2-cells of the 3-cell in which the edge lies
--   edges_of space cell c          the edges of a 2-cell of the 3-cell; none of any other
use Rattle.std.specs.Prelude.{ℕ, List, [], slice_index, if◌then◌else◌}
use Rattle.number_lists.specs.Words.{holds}
use Rattle.face_poset.specs.Poset.{Layers, facets_of}
use Rattle.face_poset.specs.Below.{facets_of_all}
use Rattle.regular_check.specs.Rules.{sharing}

abbrev pub edges_below : Layers → (cell : ℕ) → List ℕ
edges_below space cell = facets_of_all space 1 (facets_of space 3 cell)

abbrev pub vertices_below : Layers → (cell : ℕ) → List ℕ
vertices_below space cell = facets_of_all space 0 (edges_below space cell)

abbrev pub first_end : Layers → (e : ℕ) → ℕ
first_end space e = slice_index (facets_of space 1 e) 0

abbrev pub last_end : Layers → (e : ℕ) → ℕ
last_end space e = slice_index (facets_of space 1 e) 1

abbrev pub first_side : Layers → (cell e : ℕ) → ℕ
first_side space cell e = slice_index (sharing space 2 (facets_of space 3 cell) e) 0

abbrev pub last_side : Layers → (cell e : ℕ) → ℕ
last_side space cell e = slice_index (sharing space 2 (facets_of space 3 cell) e) 1

abbrev pub edges_of : Layers → (cell c : ℕ) → List ℕ
edges_of space cell c = if holds (facets_of space 3 cell) c then facets_of space 2 c else []
