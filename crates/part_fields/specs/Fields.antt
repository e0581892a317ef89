-- Fields of pairs on the parts of a space. space is the lists of a space, pairs a list of pairs, p a pair, number a component; components
-- and cells are numbered from 1.
--   lies_in space number p                whether the lower of the pair is in the component
--   pair_in space number p                the pair, by the numbers that the part gives its cells
--   field_in space pairs number           the pairs of a component by the numbers of its part, in the order in which they stand
--   pair_of space number p                a pair of the part, by the numbers of its cells in the whole space
--   joined_from space number fields       the pairs of the parts from this one on, one field after another, by the numbers of the whole space
--   joined space fields                   so for all parts
--   field_at fields number                the field of a component in a list of fields
use Rattle.std.specs.Prelude.{ℕ, suc, ◌+◌, ◌-◌, ◌==◌, List, [], ◌∷◌, ◌++◌, Bool, filter, map, slice_index_or}
use Rattle.face_poset.specs.declared.cells.Pair.{Pair}
use Rattle.face_poset.specs.Poset.{Layers}
use Rattle.vector_field.specs.Pairs.{pair}
use Rattle.space_parts.specs.Parts.{component_at, place_in, piece_of, whole_of}

abbrev pub lies_in : Layers → (number : ℕ) → Pair → Bool
lies_in space number p = component_at space p.dim p.lower == number

abbrev pub pair_in : Layers → (number : ℕ) → Pair → Pair
pair_in space number p = pair p.dim (place_in space number p.dim p.lower) (place_in space number (p.dim + 1) p.upper)

abbrev pub field_in : Layers → List Pair → (number : ℕ) → List Pair
field_in space pairs number = map (pair_in space number) (filter (lies_in space number) pairs)

abbrev pub pair_of : Layers → (number : ℕ) → Pair → Pair
pair_of space number p = pair p.dim (whole_of (piece_of space number) p.dim p.lower) (whole_of (piece_of space number) (p.dim + 1) p.upper)

abbrev pub joined_from : Layers → (number : ℕ) → List (List Pair) → List Pair
joined_from space number [] = []
joined_from space number (field ∷ fields) = map (pair_of space number) field ++ joined_from space (suc number) fields

abbrev pub joined : Layers → List (List Pair) → List Pair
joined space fields = joined_from space 1 fields

abbrev pub field_at : List (List Pair) → (number : ℕ) → List Pair
field_at fields number = slice_index_or fields (number - 1) []
