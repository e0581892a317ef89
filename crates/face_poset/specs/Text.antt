-- The boundary text of a space: one line, without spaces. space is its layers, dim a dimension.
--   commas texts               the texts with a comma between each two
--   brackets texts             the same between [ and ]
--   cell_text dim facets       a vertex is [1,0]; any other cell is the number of its facets and the facets
--   layer_text dim cells       the cells of a layer
--   layer_texts space n        the texts of the first n layers
--   layers_text space d        the layers up to dimension d, and a line feed
--   boundary_text space        the layers up to the dimension of the space
-- and for the code as it writes
--   lead index                 what stands before the item with this number, counted from 0
--   facet_texts facets         the facets, each with a comma before it
use Rattle.std.specs.Prelude.{ℕ, zero, suc, ◌+◌, ◌==◌, List, [], ◌∷◌, ◌++◌, map, length, if◌then◌else◌, decimal, codes}
use Rattle.std.specs.List.{join_with_byte, range_with_len, flat_map}
use Rattle.face_poset.specs.Poset.{Layers, layer, dimension_of}

abbrev pub commas : List (List ℕ) → List ℕ
commas = join_with_byte 44

abbrev pub brackets : List (List ℕ) → List ℕ
brackets texts = 91 ∷ (commas texts ++ 93 ∷ [])

abbrev pub cell_text : (dim : ℕ) → List ℕ → List ℕ
cell_text zero facets = codes "[1,0]"
cell_text (suc dim) facets = brackets (map decimal (length facets ∷ facets))

abbrev pub layer_text : (dim : ℕ) → List (List ℕ) → List ℕ
layer_text dim cells = brackets (map (cell_text dim) cells)

abbrev pub layer_texts : Layers → ℕ → List (List ℕ)
layer_texts space n = map (λ dim. layer_text dim (layer space dim)) (range_with_len 0 n)

abbrev pub layers_text : Layers → (dimension : ℕ) → List ℕ
layers_text space dimension = brackets (layer_texts space (dimension + 1)) ++ 10 ∷ []

abbrev pub boundary_text : Layers → List ℕ
boundary_text space = layers_text space (dimension_of space)

abbrev pub lead : ℕ → List ℕ
lead index = if index == 0 then [] else 44 ∷ []

abbrev pub facet_texts : List ℕ → List ℕ
facet_texts facets = flat_map (λ facet. 44 ∷ decimal facet) facets
