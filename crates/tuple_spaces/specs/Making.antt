-- A space in the making, one dimension after another. whole gives the layer of each dimension as it will be, part what stands of it.
--   layer_made whole part dim layer   a layer, where the dimensions below dim are done: whole below it, the part that stands there, and
--                                     nothing above
--   made whole part dim               the space: its layers of dimensions 0 to 3
use Rattle.std.specs.Prelude.{ℕ, ◌==◌, List, [], ◌∷◌, if◌then◌else◌, nat_lt}
use Rattle.face_poset.specs.Poset.{Layers}

abbrev pub layer_made : (whole part : ℕ → List (List ℕ)) → (dim layer : ℕ) → List (List ℕ)
layer_made whole part dim layer = if nat_lt layer dim then whole layer else (if layer == dim then part layer else [])

abbrev pub made : (whole part : ℕ → List (List ℕ)) → (dim : ℕ) → Layers
made whole part dim = layer_made whole part dim 0 ∷ layer_made whole part dim 1 ∷ layer_made whole part dim 2 ∷ layer_made whole part dim 3 ∷ []
