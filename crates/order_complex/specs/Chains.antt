-- The order complex of a space: its chains are the strictly increasing sequences of cells, each a face of the next.
-- (The barycentric subdivision; textbook.) A cell is written by its id, which counts all cells from 1, vertices first.
-- `space` is four lists of cells, each the list of its facets; `faces` lists the faces of each cell by ids.
--   cells_before space dim       how many cells have a smaller dimension
--   id_of space cell             the id of a cell
--   all_cells space              all cells in the order of their ids
--   faces_of space dim number    the ids of the faces of a cell, without the cell itself, increasing
--   all_faces space              the same for each cell, in the order of ids
--   above faces cell             the ids of the cells of which the cell is a face, increasing
--   chains_from faces more cell  the chains from a cell on with so many cells more
--   chains_of space degree       the chains with one cell more than the degree, in lexicographic order
--   chain_count space            how many chains of degrees 0 to 3 there are in all
use Rattle.std.specs.Prelude.{ℕ, zero, suc, ◌+◌, List, [], ◌∷◌, map, length}
use Rattle.std.specs.List.{flat_map}
use Rattle.face_poset.specs.declared.cells.Cell.{Cell}
use Rattle.face_poset.specs.Words.{upto}
use Rattle.face_poset.specs.Poset.{Layers, count}
use Rattle.number_lists.specs.Cofaces.{cells_with}
use Rattle.face_poset.specs.Below.{cell_at, closure, facets_of_all}

-- how many cells have a smaller dimension
abbrev pub cells_before : Layers → ℕ → ℕ
cells_before space zero = 0
cells_before space (suc dim) = cells_before space dim + count space dim

abbrev pub id_of : Layers → Cell → ℕ
id_of space cell = cells_before space cell.dim + cell.number

-- all cells in the order of their ids
abbrev pub all_cells : Layers → List Cell
all_cells space = flat_map (λ dim. map (cell_at dim) (upto (count space dim))) (0 ∷ 1 ∷ 2 ∷ 3 ∷ [])

-- the ids of the faces of a cell, without the cell itself, increasing
abbrev pub faces_of : Layers → (dim number : ℕ) → List ℕ
faces_of space zero number = []
faces_of space (suc dim) number = map (id_of space) (closure space dim (facets_of_all space dim (number ∷ [])))

-- the same for each cell, in the order of ids
abbrev pub all_faces : Layers → List (List ℕ)
all_faces space = map (λ cell. faces_of space cell.dim cell.number) (all_cells space)

-- where `faces` lists the faces of each cell: the ids of the cells of which the cell is a face, increasing
abbrev pub above : List (List ℕ) → (cell : ℕ) → List ℕ
above faces cell = cells_with faces cell

-- the chains from a cell on with so many cells more
abbrev pub chains_from : List (List ℕ) → (more cell : ℕ) → List (List ℕ)
chains_from faces zero cell = (cell ∷ []) ∷ []
chains_from faces (suc more) cell = map (λ chain. cell ∷ chain) (flat_map (chains_from faces more) (above faces cell))

-- the chains of a degree, those with one cell more than the degree, in lexicographic order
abbrev pub chains_of : Layers → (degree : ℕ) → List (List ℕ)
chains_of space degree = let faces = all_faces space in flat_map (chains_from faces degree) (upto (length faces))

-- how many chains there are in all
abbrev pub chain_count : Layers → ℕ
chain_count space = length (chains_of space 0) + length (chains_of space 1) + length (chains_of space 2) + length (chains_of space 3)
