-- The definitions on worked examples.
use Rattle.std.proofs.Common.{◌≡◌, ℕ, List, [], ◌∷◌, true, false, Some, None, refl}
use Rattle.face_poset.specs.declared.cells.Pair.{Pair}
use Rattle.face_poset.specs.Poset.{count}
use Rattle.vector_field.specs.Pairs.{pair, first_bad, unpaired}
use Rattle.vector_field.specs.Paths.{has_path}
use Rattle.vector_field.specs.Maximal.{is_maximal}

-- two vertices and two edges between them
abbrev circle : List (List (List ℕ))
circle = ([] ∷ [] ∷ []) ∷ ((1 ∷ 2 ∷ []) ∷ (1 ∷ 2 ∷ []) ∷ []) ∷ [] ∷ [] ∷ []

circle-field : first_bad circle (pair 0 2 1 ∷ []) ≡ None
circle-field = refl

circle-maximal : is_maximal circle (pair 0 2 1 ∷ []) ≡ true
circle-maximal = refl

-- no pair is a field, and not a maximal one
circle-none : first_bad circle [] ≡ None
circle-none = refl

circle-not-maximal : is_maximal circle [] ≡ false
circle-not-maximal = refl

-- round the circle: vertex 1 is an other facet of edge 1 and the lower of the later pair
circle-round : first_bad circle (pair 0 2 1 ∷ pair 0 1 2 ∷ []) ≡ Some 0
circle-round = refl

-- a cell again, a cell that is not there, a lower that is no facet
circle-again : first_bad circle (pair 0 2 1 ∷ pair 0 2 2 ∷ []) ≡ Some 1
circle-again = refl

circle-absent : first_bad circle (pair 0 2 0 ∷ []) ≡ Some 0
circle-absent = refl

-- four vertices, six edges and three squares
abbrev plane : List (List (List ℕ))
plane =
    ([] ∷ [] ∷ [] ∷ [] ∷ [])
    ∷ ((1 ∷ 2 ∷ []) ∷ (1 ∷ 3 ∷ []) ∷ (1 ∷ 4 ∷ []) ∷ (2 ∷ 3 ∷ []) ∷ (2 ∷ 4 ∷ []) ∷ (3 ∷ 4 ∷ []) ∷ [])
    ∷ ((1 ∷ 3 ∷ 4 ∷ 6 ∷ []) ∷ (1 ∷ 2 ∷ 5 ∷ 6 ∷ []) ∷ (2 ∷ 3 ∷ 4 ∷ 5 ∷ []) ∷ [])
    ∷ []
    ∷ []

abbrev plane_pairs : List Pair
plane_pairs = pair 0 4 3 ∷ pair 0 2 5 ∷ pair 0 3 6 ∷ pair 1 2 3 ∷ pair 1 1 2 ∷ []

plane-field : first_bad plane plane_pairs ≡ None
plane-field = refl

plane-maximal : is_maximal plane plane_pairs ≡ true
plane-maximal = refl

plane-vertices : unpaired plane_pairs 0 (count plane 0) ≡ 1 ∷ []
plane-vertices = refl

plane-edges : unpaired plane_pairs 1 (count plane 1) ≡ 4 ∷ []
plane-edges = refl

plane-disks : unpaired plane_pairs 2 (count plane 2) ≡ 1 ∷ []
plane-disks = refl

-- from 2-cell 1 by edge 1 over 2-cell 2, edge 2 and 2-cell 3 to edge 4
plane-path : has_path plane plane_pairs 1 1 4 ≡ true
plane-path = refl

-- edge 2 leads to edge 4 alone: 2-cell 2 has the path to edge 2 by its own pair only
plane-order : first_bad plane (pair 1 1 2 ∷ pair 1 2 3 ∷ []) ≡ Some 0
plane-order = refl
