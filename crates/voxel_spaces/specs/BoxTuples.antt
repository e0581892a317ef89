-- Tuples of coordinates below limits, by their places in lexicographic order, which are counted from 0.
--   strides_of limits        how many places a step in each direction is
--   tuple_at strides place   the tuple at a place
use Rattle.std.specs.Prelude.{ℕ, ◌/◌, ◌%◌, List, [], ◌∷◌}
use Rattle.array_values.specs.Bits.{volume}

abbrev pub strides_of : (limits : List ℕ) → List ℕ
strides_of [] = []
strides_of (limit ∷ limits) = volume limits ∷ strides_of limits

abbrev pub tuple_at : (strides : List ℕ) → (place : ℕ) → List ℕ
tuple_at [] place = []
tuple_at (stride ∷ strides) place = (place / stride) ∷ tuple_at strides (place % stride)
