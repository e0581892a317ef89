-- Total spaces: from a labelling of a space the space that covers it. Over each cell stands a cell for each sheet, that
-- of the sheet over the least vertex of the cell; its facets are those of the sheets where edge paths inside the closed
-- cell lead. (Covering spaces by monodromy; textbook.) space is the lists of a space, m the number of sheets, u a
-- labelling: the permutation of each edge; dim is a dimension, cell a cell of it, s, x and y are sheets, v and w
-- vertices; cells and sheets are numbered from 1.
--   least_vertex space dim cell              the least vertex of a closed cell
--   sheeted m cell s                         the number of the cell over this one at the sheet s
--   below space dim cell d                   the cells of dimension d in a closed cell, in increasing order
--   Along space u dim cell s w y             an edge path inside the closed cell leads from the sheet s over its least
--                                            vertex to the sheet y over the vertex w
--   places space m dim cell                  the sheets over the vertices of a closed cell, by their numbers
--   leads space m u edges p q                whether one of the edges, taken either way, leads from one sheet over a
--                                            vertex to another; both by their numbers
--   sheet space m u dim cell s w             the first y that is so reached over w, computed
--   facet_over space m u dim cell s facet    the facet over this one of the cell over `cell` at the sheet s
--   cell_over space m u dim cell s           the facets of the cell over this one at the sheet s, by those of this one
--   layer_over space m u dim                 the cells over those of a dimension, by cell, then by sheet
--   total_of space m u                       the total space: these lists for the dimensions 0 to 3
--   IsTooLarge space m                       it would have more than 60,000 cells
use Rattle.std.specs.Prelude.{ℕ, ◌+◌, ◌-◌, ◌*◌, ◌<◌, ◌==◌, ◌&&◌, ◌||◌, List, [], ◌∷◌, filter, map, Contains, Bool}
use Rattle.std.specs.Prelude.{slice_index, slice_index_or}
use Rattle.std.specs.List.{list_any, flat_map}
use Rattle.number_lists.specs.Words.{upto}
use Rattle.number_lists.specs.Reach.{reaches}
use Rattle.face_poset.specs.declared.cells.Cell.{Cell}
use Rattle.face_poset.specs.Poset.{Layers, count, cell_count, facets_of}
use Rattle.face_poset.specs.Below.{cell_at, closed_cell}
use Rattle.regular_check.specs.declared.cycles.Step.{Step}
use Rattle.regular_check.specs.Cycle.{start_of, end_of}
use Rattle.sheet_laws.specs.Permutations.{at}
use Rattle.sheet_laws.specs.Labellings.{label, step}

abbrev pub least_vertex : Layers → (dim cell : ℕ) → ℕ
least_vertex space dim cell = (slice_index_or (closed_cell space dim cell) 0 (cell_at 0 0)).number

abbrev pub sheeted : (m cell s : ℕ) → ℕ
sheeted m cell s = m * (cell - 1) + s

abbrev pub below : Layers → (dim cell d : ℕ) → List ℕ
below space dim cell d = map (λ (c : Cell). c.number) (filter (λ (c : Cell). c.dim == d) (closed_cell space dim cell))

pub data Along (space : Layers) (u : List (List ℕ)) (dim cell s : ℕ) : (w y : ℕ) → Type 0 where
  here : Along space u dim cell s (least_vertex space dim cell) s
  on :
      {y : ℕ} (t : Step)
      → Contains (closed_cell space dim cell) (cell_at 1 t.edge)
      → Along space u dim cell s (start_of space t) y
      → Along space u dim cell s (end_of space t) (step u t y)

abbrev pub leads : Layers → (m : ℕ) → List (List ℕ) → (edges : List ℕ) → (p q : ℕ) → Bool
leads space m u edges p q =
    list_any
    (λ e.
    list_any
    (λ x.
    let a = sheeted m (slice_index (facets_of space 1 e) 0) x in
    let b = sheeted m (slice_index (facets_of space 1 e) 1) (at (label u e) x) in
    ((p == a) && (q == b)) || ((p == b) && (q == a)))
    (upto m))
    edges

abbrev pub places : Layers → (m dim cell : ℕ) → List ℕ
places space m dim cell = flat_map (λ v. map (sheeted m v) (upto m)) (below space dim cell 0)

abbrev pub sheet : Layers → (m : ℕ) → List (List ℕ) → (dim cell s w : ℕ) → ℕ
sheet space m u dim cell s w =
    slice_index
    (filter
    (λ y.
    reaches
    (leads space m u (below space dim cell 1))
    (places space m dim cell)
    (sheeted m (least_vertex space dim cell) s)
    (sheeted m w y))
    (upto m))
    0

abbrev pub facet_over : Layers → (m : ℕ) → List (List ℕ) → (dim cell s facet : ℕ) → ℕ
facet_over space m u dim cell s facet =
    sheeted m facet (sheet space m u dim cell s (least_vertex space (dim - 1) facet))

abbrev pub cell_over : Layers → (m : ℕ) → List (List ℕ) → (dim cell s : ℕ) → List ℕ
cell_over space m u dim cell s = map (facet_over space m u dim cell s) (facets_of space dim cell)

abbrev pub layer_over : Layers → (m : ℕ) → List (List ℕ) → (dim : ℕ) → List (List ℕ)
layer_over space m u dim = flat_map (λ c. map (cell_over space m u dim c) (upto m)) (upto (count space dim))

abbrev pub total_of : Layers → (m : ℕ) → List (List ℕ) → Layers
total_of space m u =
    layer_over space m u 0 ∷ layer_over space m u 1 ∷ layer_over space m u 2 ∷ layer_over space m u 3 ∷ []

abbrev pub IsTooLarge : Layers → (m : ℕ) → Type 0
IsTooLarge space m = 60000 < m * cell_count space
