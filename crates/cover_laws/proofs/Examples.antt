-- The covers of small spaces, by the definitions.
use Rattle.std.proofs.Common.{◌≡◌, List, [], ◌∷◌, refl}
use Rattle.face_poset.specs.declared.cells.Pair.{Pair}
use Rattle.face_poset.specs.Poset.{Layers}
use Rattle.vector_field.specs.Pairs.{pair}
use Rattle.live_laws.specs.Live.{listed}
use Rattle.cover_laws.specs.Covers.{relations_at, covers, covers_after}

-- a point has the table of one sheet
abbrev point : Layers
point = ([] ∷ []) ∷ [] ∷ [] ∷ [] ∷ []

point_covers : covers point [] 3 ≡ (1, []) ∷ []
point_covers = refl

-- the circle: two vertices and two edges between them
abbrev circle : Layers
circle = ([] ∷ [] ∷ []) ∷ ((1 ∷ 2 ∷ []) ∷ (1 ∷ 2 ∷ []) ∷ []) ∷ [] ∷ [] ∷ []

circle_covers : covers circle (pair 0 2 1 ∷ []) 3 ≡ (1, 1 ∷ []) ∷ (2, 2 ∷ 1 ∷ []) ∷ (3, 2 ∷ 3 ∷ 1 ∷ []) ∷ []
circle_covers = refl

circle_after : covers_after circle (pair 0 2 1 ∷ []) 3 (2, 2 ∷ []) ≡ (2, 2 ∷ 1 ∷ []) ∷ (3, 2 ∷ 3 ∷ 1 ∷ []) ∷ []
circle_after = refl

-- and none of them after itself
circle_last : covers_after circle (pair 0 2 1 ∷ []) 3 (3, 2 ∷ 3 ∷ 1 ∷ []) ≡ []
circle_last = refl

-- the listed tables, by words alone
circle_listed : listed (relations_at circle (pair 0 2 1 ∷ [])) 3 (2, 2 ∷ []) ≡ (2, 2 ∷ 1 ∷ []) ∷ (3, 2 ∷ 3 ∷ 1 ∷ []) ∷ []
circle_listed = refl

-- two circles that meet in a vertex
abbrev wedge : Layers
wedge =
    ([] ∷ [] ∷ [] ∷ [])
    ∷ ((1 ∷ 2 ∷ []) ∷ (1 ∷ 2 ∷ []) ∷ (1 ∷ 3 ∷ []) ∷ (1 ∷ 3 ∷ []) ∷ [])
    ∷ []
    ∷ []
    ∷ []

abbrev wedge_pairs : List Pair
wedge_pairs = pair 0 2 1 ∷ pair 0 3 3 ∷ []

wedge_covers :
    covers wedge wedge_pairs 2
    ≡ (1, 1 ∷ 1 ∷ []) ∷ (2, 1 ∷ 2 ∷ 2 ∷ 1 ∷ []) ∷ (2, 2 ∷ 1 ∷ 1 ∷ 2 ∷ []) ∷ (2, 2 ∷ 2 ∷ 1 ∷ 1 ∷ []) ∷ []
wedge_covers = refl

wedge_after : covers_after wedge wedge_pairs 2 (2, 1 ∷ 2 ∷ 2 ∷ []) ≡ (2, 1 ∷ 2 ∷ 2 ∷ 1 ∷ []) ∷ (2, 2 ∷ 1 ∷ 1 ∷ 2 ∷ []) ∷ (2, 2 ∷ 2 ∷ 1 ∷ 1 ∷ []) ∷ []
wedge_after = refl

-- the projective plane has itself and the sphere
abbrev plane : Layers
plane =
    ([] ∷ [] ∷ [] ∷ [] ∷ [])
    ∷ ((1 ∷ 2 ∷ []) ∷ (1 ∷ 3 ∷ []) ∷ (1 ∷ 4 ∷ []) ∷ (2 ∷ 3 ∷ []) ∷ (2 ∷ 4 ∷ []) ∷ (3 ∷ 4 ∷ []) ∷ [])
    ∷ ((1 ∷ 3 ∷ 4 ∷ 6 ∷ []) ∷ (1 ∷ 2 ∷ 5 ∷ 6 ∷ []) ∷ (2 ∷ 3 ∷ 4 ∷ 5 ∷ []) ∷ [])
    ∷ []
    ∷ []

abbrev plane_pairs : List Pair
plane_pairs = pair 0 4 3 ∷ pair 0 2 5 ∷ pair 0 3 6 ∷ pair 1 2 3 ∷ pair 1 1 2 ∷ []

plane_covers : covers plane plane_pairs 3 ≡ (1, 1 ∷ []) ∷ (2, 2 ∷ 1 ∷ []) ∷ []
plane_covers = refl
