-- The closed cell: a cell with all its faces. space is the layers of a space, dim a dimension, cells are
-- numbers of cells of it.
--   facets_of_all space dim cells    the facets of these cells of dimension dim + 1, each once, in increasing order
--   cell_at dim number               a cell by its dimension and number
--   closure space dim cells          these cells of a dimension and all their faces, by dimension, then by number
--   closed_cell space dim cell       the cell and all its faces, in that order
--   IsBelow space dim cell d n       cell n of dimension d is in the least set that holds the cell and the facets of all its members
use Rattle.std.specs.Prelude.{ℕ, zero, suc, ◌+◌, List, [], ◌∷◌, ◌++◌, filter, map, Contains}
use Rattle.std.specs.List.{list_any}
use Rattle.face_poset.specs.declared.cells.Cell.{Cell}
use Rattle.number_lists.specs.Words.{upto, holds}
use Rattle.face_poset.specs.Poset.{Layers, count, facets_of}

abbrev pub facets_of_all : Layers → (dim : ℕ) → List ℕ → List ℕ
facets_of_all space dim cells = filter (λ f. list_any (λ c. holds (facets_of space (dim + 1) c) f) cells) (upto (count space dim))

abbrev pub cell_at : ℕ → ℕ → Cell
cell_at dim number = record { dim = dim; number = number }

abbrev pub closure : Layers → (dim : ℕ) → List ℕ → List Cell
closure space zero cells = map (cell_at zero) cells
closure space (suc dim) cells = closure space dim (facets_of_all space dim cells) ++ map (cell_at (suc dim)) cells

abbrev pub closed_cell : Layers → (dim cell : ℕ) → List Cell
closed_cell space dim cell = closure space dim (cell ∷ [])

pub data IsBelow (space : Layers) (dim cell : ℕ) : ℕ → ℕ → Type 0 where
  itself : IsBelow space dim cell dim cell
  facet : (d c f : ℕ) → IsBelow space dim cell (suc d) c → Contains (facets_of space (suc d) c) f → IsBelow space dim cell d f
