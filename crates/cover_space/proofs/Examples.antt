-- The definitions on worked examples.
use Rattle.std.proofs.Common.{◌≡◌, ℕ, List, [], ◌∷◌, true, refl}
use Rattle.sheet_laws.specs.Labellings.{is_labelling}
use Rattle.cover_space.specs.Total.{least_vertex, below, sheet, cell_over, total_of}

-- ---- the circle: two vertices and two edges between them

abbrev circle : List (List (List ℕ))
circle = ([] ∷ [] ∷ []) ∷ ((1 ∷ 2 ∷ []) ∷ (1 ∷ 2 ∷ []) ∷ []) ∷ [] ∷ [] ∷ []

-- two sheets: a circle of four edges
circle-double : total_of circle 2 ((1 ∷ 2 ∷ []) ∷ (2 ∷ 1 ∷ []) ∷ []) ≡ ([] ∷ [] ∷ [] ∷ [] ∷ []) ∷ ((1 ∷ 3 ∷ []) ∷ (2 ∷ 4 ∷ []) ∷ (1 ∷ 4 ∷ []) ∷ (2 ∷ 3 ∷ []) ∷ []) ∷ [] ∷ [] ∷ []
circle-double = refl

-- three sheets that go round
circle-threefold : cell_over circle 3 ((1 ∷ 2 ∷ 3 ∷ []) ∷ (2 ∷ 3 ∷ 1 ∷ []) ∷ []) 1 2 3 ≡ 3 ∷ 4 ∷ []
circle-threefold = refl

-- ---- the projective plane: four vertices, six edges and three squares

abbrev plane : List (List (List ℕ))
plane =
    ([] ∷ [] ∷ [] ∷ [] ∷ [])
    ∷ ((1 ∷ 2 ∷ []) ∷ (1 ∷ 3 ∷ []) ∷ (1 ∷ 4 ∷ []) ∷ (2 ∷ 3 ∷ []) ∷ (2 ∷ 4 ∷ []) ∷ (3 ∷ 4 ∷ []) ∷ [])
    ∷ ((1 ∷ 3 ∷ 4 ∷ 6 ∷ []) ∷ (1 ∷ 2 ∷ 5 ∷ 6 ∷ []) ∷ (2 ∷ 3 ∷ 4 ∷ 5 ∷ []) ∷ [])
    ∷ []
    ∷ []

abbrev plane_labels : List (List ℕ)
plane_labels = (2 ∷ 1 ∷ []) ∷ (2 ∷ 1 ∷ []) ∷ (1 ∷ 2 ∷ []) ∷ (2 ∷ 1 ∷ []) ∷ (1 ∷ 2 ∷ []) ∷ (1 ∷ 2 ∷ []) ∷ []

plane-labelling : is_labelling plane 2 plane_labels ≡ true
plane-labelling = refl

plane-below : below plane 2 3 0 ≡ 1 ∷ 2 ∷ 3 ∷ 4 ∷ []
plane-below = refl

plane-least : least_vertex plane 1 5 ≡ 2
plane-least = refl

-- inside the first square: from the first sheet over vertex 1 to vertex 2 along an edge, and to vertex 3 over vertex 4
plane-near : sheet plane 2 plane_labels 2 1 1 2 ≡ 2
plane-near = refl

plane-far : sheet plane 2 plane_labels 2 1 1 3 ≡ 1
plane-far = refl

-- the sphere of six squares: over each square two
plane-double :
    total_of plane 2 plane_labels
    ≡ ([] ∷ [] ∷ [] ∷ [] ∷ [] ∷ [] ∷ [] ∷ [] ∷ [])
    ∷ ((1 ∷ 4 ∷ []) ∷ (2 ∷ 3 ∷ []) ∷ (1 ∷ 6 ∷ []) ∷ (2 ∷ 5 ∷ []) ∷ (1 ∷ 7 ∷ []) ∷ (2 ∷ 8 ∷ []) ∷ (3 ∷ 6 ∷ []) ∷ (4 ∷ 5 ∷ []) ∷ (3 ∷ 7 ∷ []) ∷ (4 ∷ 8 ∷ []) ∷ (5 ∷ 7 ∷ []) ∷ (6 ∷ 8 ∷ []) ∷ [])
    ∷ ((1 ∷ 5 ∷ 8 ∷ 11 ∷ []) ∷ (2 ∷ 6 ∷ 7 ∷ 12 ∷ []) ∷ (1 ∷ 3 ∷ 10 ∷ 12 ∷ []) ∷ (2 ∷ 4 ∷ 9 ∷ 11 ∷ []) ∷ (3 ∷ 5 ∷ 7 ∷ 9 ∷ []) ∷ (4 ∷ 6 ∷ 8 ∷ 10 ∷ []) ∷ [])
    ∷ []
    ∷ []
plane-double = refl
