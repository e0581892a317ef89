-- Places of numbers in a list, counted from 1, in place of the numbers. sorted is a list of different numbers, space the lists of a space.
--   number_at sorted place                    the number at a place
--   ArePlaces sorted numbers places           these are the places of the numbers
--   AreFacetPlaces space dim sorted cells lists    for each of the cells of a dimension the places of its facets
use Rattle.std.specs.Prelude.{◌≡◌, ℕ, ◌-◌, ◌<◌, ◌≤◌, List, [], All, length, map, slice_index, slice_index_or}
use Rattle.face_poset.specs.Poset.{Layers, facets_of}

abbrev pub number_at : List ℕ → (place : ℕ) → ℕ
number_at sorted place = slice_index sorted (place - 1)

pub record ArePlaces (sorted numbers places : List ℕ) : Type 0 where
  pub numbers_are : map (number_at sorted) places ≡ numbers
  pub within : All (λ p. (1 ≤ p) × (p ≤ length sorted)) places

pub record AreFacetPlaces (space : Layers) (dim : ℕ) (sorted cells : List ℕ) (lists : List (List ℕ)) : Type 0 where
  pub as_many : length lists ≡ length cells
  pub each : (k : ℕ) → k < length cells → ArePlaces sorted (facets_of space dim (slice_index cells k)) (slice_index_or lists k [])
