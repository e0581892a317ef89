-- Spaces: for each dimension from 0 to 3 the list of its cells, and for each cell the list of the
-- numbers of its facets. Cells and facets are numbered from 1 in their dimension.
-- (Lists of boundaries, as HAP keeps a regular CW-space.) space is such a list, dim a dimension.
--   Layers                     the type of such lists: dimensions, in each the cells, of each the facets
--   layer space dim            the cells of a dimension, each as the list of its facets; none above the last
--   count space dim            how many cells a dimension has
--   cell_count space           how many cells there are in all
--   facets_of space dim cell   the facets of a cell
--   cofaces_of space dim cell  the cells of one dimension more of which the cell is a facet, in increasing order
--   coface_layers space        the lists of cofaces of all cells
--   IsCell below facets        strictly increasing numbers from 1 to below, the number of cells below, at least one
--   IsSpace space              four layers; vertices have no facet, each other cell has a list of facets; at most 2^32 - 1 cells
--   IsLimited space            at least one vertex, and at most 60,000 cells
--   dimension_of space         the greatest dimension that has a cell
--   IsDimension space n        some cell has dimension n, and none a greater one
--   euler_of space             the alternating sum of the numbers of cells
use Rattle.std.specs.Prelude.{◌≡◌, ℕ, ◌-◌, ◌+◌, ◌≤◌, ◌<◌, List, [], ◌∷◌, length, cond, nat_le, All, slice_index_or, ℤ, pos, ◌+ℤ◌, ◌-ℤ◌}
use Rattle.std.specs.List.Sorted.{IsStrictlyIncreasing}
use Rattle.number_lists.specs.Cofaces.{cells_with, coface_lists}

abbrev pub Layers : Type 0
Layers = List (List (List ℕ))

abbrev pub layer : Layers → ℕ → List (List ℕ)
layer space dim = slice_index_or space dim []

abbrev pub count : Layers → ℕ → ℕ
count space dim = length (layer space dim)

abbrev pub cell_count : Layers → ℕ
cell_count space = count space 0 + count space 1 + count space 2 + count space 3

abbrev pub facets_of : Layers → (dim cell : ℕ) → List ℕ
facets_of space dim cell = slice_index_or (layer space dim) (cell - 1) []

abbrev pub cofaces_of : Layers → (dim cell : ℕ) → List ℕ
cofaces_of space dim cell = cells_with (layer space (dim + 1)) cell

abbrev pub coface_layers : Layers → Layers
coface_layers space =
    coface_lists (count space 0) (layer space 1)
    ∷ coface_lists (count space 1) (layer space 2)
    ∷ coface_lists (count space 2) (layer space 3)
    ∷ coface_lists (count space 3) []
    ∷ []

pub record IsCell (below : ℕ) (facets : List ℕ) : Type 0 where
  pub rises : IsStrictlyIncreasing facets
  pub within : All (λ f. (1 ≤ f) × (f ≤ below)) facets
  pub some : 1 ≤ length facets

pub record IsSpace (space : Layers) : Type 0 where
  pub layers : length space ≡ 4
  pub vertices : All (λ facets. facets ≡ []) (layer space 0)
  pub cells : (dim : ℕ) → 1 ≤ dim → All (IsCell (count space (dim - 1))) (layer space dim)
  pub few : cell_count space ≤ 4294967295

pub record IsLimited (space : Layers) : Type 0 where
  pub vertex : 1 ≤ count space 0
  pub most : cell_count space ≤ 60000

abbrev pub dimension_of : Layers → ℕ
dimension_of space =
    cond (nat_le 1 (count space 3)) 3 (cond (nat_le 1 (count space 2)) 2 (cond (nat_le 1 (count space 1)) 1 0))

pub record IsDimension (space : Layers) (n : ℕ) : Type 0 where
  pub some : 1 ≤ count space n
  pub last : (dim : ℕ) → n < dim → count space dim ≡ 0
  pub low : n ≤ 3

abbrev pub euler_of : Layers → ℤ
euler_of space = pos (count space 0) -ℤ pos (count space 1) +ℤ pos (count space 2) -ℤ pos (count space 3)
