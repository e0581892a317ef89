-- The parts of a space: for each of its components the space of the cells of that component, numbered anew. (Connected components,
-- textbook.) space is the lists of a space, number a component, dim a dimension; components and cells are numbered from 1.
--   component_at space dim cell           the component of a cell: of a vertex its own, of another cell that of its first facet
--   cells_upto space number dim cell      the cells of a component from 1 up to this one, in increasing order
--   cells_in space number dim             all cells of a component
--   place_in space number dim cell        how many cells of the component there are up to this one: the number that the part gives it
--   facets_in space number dim cell       the facets of a cell, each by its number in the part
--   layer_in space number dim             the cells of a component, each as the list of its facets by their numbers in the part
--   part_of space number                  the part: these lists for the dimensions 0 to 3
--   Piece                                 a part with the cells of the whole space from which it comes, by dimension
--   piece_of space number                 the part of a component with these
--   whole_of piece dim cell               which cell of the whole space a cell of the part is
use Rattle.std.specs.Prelude.{ℕ, zero, suc, ◌-◌, ◌==◌, List, [], ◌∷◌, length, filter, map, slice_index, slice_index_or}
use Rattle.number_lists.specs.Words.{upto}
use Rattle.face_poset.specs.Poset.{Layers, count, facets_of}
use Rattle.regular_check.specs.Components.{component_of}

abbrev pub component_at : Layers → (dim cell : ℕ) → ℕ
component_at space zero cell = component_of space cell
component_at space (suc dim) cell = component_at space dim (slice_index (facets_of space (suc dim) cell) 0)

abbrev pub cells_upto : Layers → (number dim cell : ℕ) → List ℕ
cells_upto space number dim cell = filter (λ c. component_at space dim c == number) (upto cell)

abbrev pub cells_in : Layers → (number dim : ℕ) → List ℕ
cells_in space number dim = cells_upto space number dim (count space dim)

abbrev pub place_in : Layers → (number dim cell : ℕ) → ℕ
place_in space number dim cell = length (cells_upto space number dim cell)

abbrev pub facets_in : Layers → (number dim cell : ℕ) → List ℕ
facets_in space number dim cell = map (place_in space number (dim - 1)) (facets_of space dim cell)

abbrev pub layer_in : Layers → (number dim : ℕ) → List (List ℕ)
layer_in space number dim = map (facets_in space number dim) (cells_in space number dim)

abbrev pub part_of : Layers → (number : ℕ) → Layers
part_of space number = layer_in space number 0 ∷ layer_in space number 1 ∷ layer_in space number 2 ∷ layer_in space number 3 ∷ []

pub record Piece : Type 0 where
  pub space : Layers
  pub cells : List (List ℕ)

abbrev pub piece_of : Layers → (number : ℕ) → Piece
piece_of space number =
    record {
      space = part_of space number;
      cells = cells_in space number 0 ∷ cells_in space number 1 ∷ cells_in space number 2 ∷ cells_in space number 3 ∷ [];
    }

abbrev pub whole_of : Piece → (dim cell : ℕ) → ℕ
whole_of piece dim cell = slice_index (slice_index_or piece.cells dim []) (cell - 1)
