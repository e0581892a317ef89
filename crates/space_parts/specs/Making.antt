-- A part in the making, cell by cell, one dimension after another. space is the lists of the whole space, number a component; whole gives
-- the layer of each dimension as it will be, part what stands of it.
--   layer_made whole part dim layer     a layer, where the dimensions below dim are done: whole below it, the part that stands there, and
--                                       nothing above
--   made whole part dim                 the space: its layers of dimensions 0 to 3
--   cells_made space number k dim       the first k cells of the component in a dimension, as the part has them
--   stage space number dim k            the part, where the dimensions below dim are done, and the first k cells of dim stand
--   HasCells space cells                as many cells as the space has in each dimension from 0 to 3
use Rattle.std.specs.Prelude.{◌≡◌, ℕ, ◌==◌, ◌≤◌, ◌<◌, List, [], ◌∷◌, length, map, take, if◌then◌else◌, nat_lt, slice_index_or}
use Rattle.face_poset.specs.Poset.{Layers, count}
use Rattle.space_parts.specs.Parts.{cells_in, facets_in, layer_in}

abbrev pub layer_made : (whole part : ℕ → List (List ℕ)) → (dim layer : ℕ) → List (List ℕ)
layer_made whole part dim layer = if nat_lt layer dim then whole layer else (if layer == dim then part layer else [])

abbrev pub made : (whole part : ℕ → List (List ℕ)) → (dim : ℕ) → Layers
made whole part dim = layer_made whole part dim 0 ∷ layer_made whole part dim 1 ∷ layer_made whole part dim 2 ∷ layer_made whole part dim 3 ∷ []

abbrev pub cells_made : Layers → (number k dim : ℕ) → List (List ℕ)
cells_made space number k dim = map (facets_in space number dim) (take k (cells_in space number dim))

abbrev pub stage : Layers → (number dim k : ℕ) → Layers
stage space number dim k = made (layer_in space number) (cells_made space number k) dim

pub record HasCells (space : Layers) (cells : List (List ℕ)) : Type 0 where
  pub low : (dim : ℕ) → 3 < dim → count space dim ≡ 0
  pub four : length cells ≡ 4
  pub as_many : (dim : ℕ) → dim ≤ 3 → length (slice_index_or cells dim []) ≡ count space dim
