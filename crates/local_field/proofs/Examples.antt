-- Worked examples, by computation: a ball of two vertices, two edges between them, two bigons and one 3-cell. Its
-- cells have the ids 1 and 2, 3 and 4, 5 and 6, and 7. And a path of three vertices, whose edges have the ids 4 and 5.
use Rattle.std.proofs.Common.{◌≡◌, ℕ, List, [], ◌∷◌, true, false, length, refl}
use Rattle.face_poset.specs.declared.cells.Pair.{Pair}
use Rattle.local_field.specs.Towers.{TowerPair}
use Rattle.local_field.specs.Buildings.{dim_at, is_below, flag_of, building_at, pairs_inside}
use Rattle.local_field.specs.Flags.{flag_cells, flags_of}

abbrev ball : List (List (List ℕ))
ball = ([] ∷ [] ∷ []) ∷ ((1 ∷ 2 ∷ []) ∷ (1 ∷ 2 ∷ []) ∷ []) ∷ ((1 ∷ 2 ∷ []) ∷ (1 ∷ 2 ∷ []) ∷ []) ∷ ((1 ∷ 2 ∷ []) ∷ []) ∷ []

-- the second bigon goes with the first edge, and the second vertex with the second edge
abbrev collapse : ℕ → ℕ → List Pair
collapse solid face = record { dim = 1; lower = 1; upper = 2 } ∷ record { dim = 0; lower = 2; upper = 2 } ∷ []

abbrev two : List ℕ → List ℕ → TowerPair
two low up = record { low = low; up = up }

solid_is_last : dim_at ball 7 ≡ 3
solid_is_last = refl

vertex_below : is_below ball 2 7 ≡ true
vertex_below = refl

bigon_not_below : is_below ball 5 6 ≡ false
bigon_not_below = refl

first_flag : flag_of ball 3 1 ≡ 7 ∷ 5 ∷ 3 ∷ 1 ∷ []
first_flag = refl

-- an edge without its first vertex is the other one
edge_built : building_at ball collapse 4 1 ≡ record { root = 2; pairs = [] }
edge_built = refl

-- round a bigon from its first edge on: the second edge leads from the second vertex to the first
bigon_built : building_at ball collapse 5 3 ≡ record { root = 2; pairs = (1, 4) ∷ [] }
bigon_built = refl

-- the collapse backward
solid_built : building_at ball collapse 7 5 ≡ record { root = 1; pairs = (2, 4) ∷ (3, 6) ∷ [] }
solid_built = refl

inside_edge : pairs_inside ball collapse 1 1 ≡ two (3 ∷ []) (3 ∷ 2 ∷ []) ∷ []
inside_edge = refl

-- the bigon with the vertex at which the first edge ends, and then on along the second edge
inside_bigon :
    pairs_inside ball collapse 2 1 ≡ two (5 ∷ []) (5 ∷ 2 ∷ [])
    ∷ two (5 ∷ 4 ∷ []) (5 ∷ 4 ∷ 2 ∷ [])
    ∷ two (5 ∷ 1 ∷ []) (5 ∷ 4 ∷ 1 ∷ [])
    ∷ two (5 ∷ 3 ∷ []) (5 ∷ 3 ∷ 2 ∷ [])
    ∷ []
inside_bigon = refl

-- 27 towers have the 3-cell as their top, and one is left over
inside_solid : length (pairs_inside ball collapse 3 1) ≡ 13
inside_solid = refl

-- from the second vertex to the third, and from the first to the second
abbrev path : List (List (List ℕ))
path = ([] ∷ [] ∷ [] ∷ []) ∷ ((2 ∷ 3 ∷ []) ∷ (1 ∷ 2 ∷ []) ∷ []) ∷ [] ∷ [] ∷ []

-- the chain of 1 and 5 comes before that of 2 and 4
path_flags : flag_cells path 1 ≡ 2 ∷ 1 ∷ []
path_flags = refl

path_by_places : (flags_of path (λ dim cell facet. false)).space ≡ ([] ∷ [] ∷ [] ∷ []) ∷ ((1 ∷ 2 ∷ []) ∷ (2 ∷ 3 ∷ []) ∷ []) ∷ [] ∷ [] ∷ []
path_by_places = refl
