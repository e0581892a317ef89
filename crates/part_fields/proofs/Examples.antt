-- Two circles, of the vertices 1 and 3 and of 2 and 4: a field on both, the field on each, and these joined.
use Rattle.std.proofs.Common.{◌≡◌, [], ◌∷◌, List, refl}
use Rattle.face_poset.specs.declared.cells.Pair.{Pair}
use Rattle.face_poset.specs.Poset.{Layers}
use Rattle.vector_field.specs.Pairs.{pair}
use Rattle.part_fields.specs.Fields.{field_in, joined}

abbrev circles : Layers
circles = ([] ∷ [] ∷ [] ∷ [] ∷ []) ∷ ((1 ∷ 3 ∷ []) ∷ (2 ∷ 4 ∷ []) ∷ (1 ∷ 3 ∷ []) ∷ (2 ∷ 4 ∷ []) ∷ []) ∷ [] ∷ [] ∷ []

abbrev pairs : List Pair
pairs = pair 0 4 2 ∷ pair 0 3 3 ∷ []

in_first : field_in circles pairs 1 ≡ pair 0 2 2 ∷ []
in_first = refl

in_second : field_in circles pairs 2 ≡ pair 0 2 1 ∷ []
in_second = refl

together : joined circles ((pair 0 2 2 ∷ []) ∷ (pair 0 2 1 ∷ []) ∷ []) ≡ pair 0 3 3 ∷ pair 0 4 2 ∷ []
together = refl
