-- The chosen fields of small spaces, by the definitions.
use Rattle.std.proofs.Common.{◌≡◌, [], ◌∷◌, length, map, refl}
use Rattle.face_poset.specs.Poset.{Layers, count}
use Rattle.vector_field.specs.Pairs.{pair, unpaired}
use Rattle.chosen_field.specs.Chosen.{collapsed, chosen}

-- two vertices, four edges between them, five disks: step 1 leaves a cell that more pairs take in
loops : Layers
loops =
    ([] ∷ [] ∷ [])
    ∷ ((1 ∷ 2 ∷ []) ∷ (1 ∷ 2 ∷ []) ∷ (1 ∷ 2 ∷ []) ∷ (1 ∷ 2 ∷ []) ∷ [])
    ∷ ((2 ∷ 3 ∷ []) ∷ (3 ∷ 4 ∷ []) ∷ (1 ∷ 2 ∷ []) ∷ (1 ∷ 2 ∷ []) ∷ (3 ∷ 4 ∷ []) ∷ [])
    ∷ []
    ∷ []

loops_pairs : collapsed loops 1 (1 ∷ 2 ∷ 3 ∷ 4 ∷ 5 ∷ []) ≡ pair 1 3 5 ∷ pair 1 1 4 ∷ []
unfolding loops
loops_pairs = refl

loops_field : chosen loops ≡ pair 0 2 4 ∷ pair 1 3 5 ∷ pair 1 2 1 ∷ pair 1 1 4 ∷ []
unfolding loops
loops_field = refl

loops_critical : map (λ dim. length (unpaired (chosen loops) dim (count loops dim))) (0 ∷ 1 ∷ 2 ∷ 3 ∷ []) ≡ 1 ∷ 0 ∷ 2 ∷ 0 ∷ []
unfolding loops
loops_critical = refl

-- the projective plane of three squares
plane : Layers
plane =
    ([] ∷ [] ∷ [] ∷ [] ∷ [])
    ∷ ((1 ∷ 2 ∷ []) ∷ (1 ∷ 3 ∷ []) ∷ (1 ∷ 4 ∷ []) ∷ (2 ∷ 3 ∷ []) ∷ (2 ∷ 4 ∷ []) ∷ (3 ∷ 4 ∷ []) ∷ [])
    ∷ ((1 ∷ 3 ∷ 4 ∷ 6 ∷ []) ∷ (1 ∷ 2 ∷ 5 ∷ 6 ∷ []) ∷ (2 ∷ 3 ∷ 4 ∷ 5 ∷ []) ∷ [])
    ∷ []
    ∷ []

plane_field : chosen plane ≡ pair 0 4 3 ∷ pair 0 2 5 ∷ pair 0 3 6 ∷ pair 1 2 3 ∷ pair 1 1 2 ∷ []
unfolding plane
plane_field = refl

-- a torus of four squares
torus : Layers
torus =
    ([] ∷ [] ∷ [] ∷ [] ∷ [])
    ∷ ((1 ∷ 2 ∷ []) ∷ (1 ∷ 2 ∷ []) ∷ (1 ∷ 3 ∷ []) ∷ (2 ∷ 4 ∷ []) ∷ (3 ∷ 4 ∷ []) ∷ (3 ∷ 4 ∷ []) ∷ (1 ∷ 3 ∷ []) ∷ (2 ∷ 4 ∷ []) ∷ [])
    ∷ ((1 ∷ 3 ∷ 4 ∷ 5 ∷ []) ∷ (2 ∷ 3 ∷ 4 ∷ 6 ∷ []) ∷ (1 ∷ 5 ∷ 7 ∷ 8 ∷ []) ∷ (2 ∷ 6 ∷ 7 ∷ 8 ∷ []) ∷ [])
    ∷ []
    ∷ []

torus_field : chosen torus ≡ pair 0 3 7 ∷ pair 0 4 5 ∷ pair 0 2 4 ∷ pair 1 1 3 ∷ pair 1 2 4 ∷ pair 1 3 2 ∷ []
unfolding torus
torus_field = refl

-- a 3-sphere with two cells in each dimension
sphere : Layers
sphere = ([] ∷ [] ∷ []) ∷ ((1 ∷ 2 ∷ []) ∷ (1 ∷ 2 ∷ []) ∷ []) ∷ ((1 ∷ 2 ∷ []) ∷ (1 ∷ 2 ∷ []) ∷ []) ∷ ((1 ∷ 2 ∷ []) ∷ (1 ∷ 2 ∷ []) ∷ []) ∷ []

sphere_field : chosen sphere ≡ pair 0 2 2 ∷ pair 1 1 2 ∷ pair 2 1 2 ∷ []
unfolding sphere
sphere_field = refl

-- the 3-torus of eight cubes
torus_of_cubes : Layers
torus_of_cubes =
    ([] ∷ [] ∷ [] ∷ [] ∷ [] ∷ [] ∷ [] ∷ [] ∷ [])
    ∷ ((1 ∷ 2 ∷ []) ∷ (1 ∷ 2 ∷ []) ∷ (1 ∷ 3 ∷ []) ∷ (2 ∷ 4 ∷ []) ∷ (3 ∷ 4 ∷ []) ∷ (3 ∷ 4 ∷ []) ∷ (1 ∷ 3 ∷ []) ∷ (2 ∷ 4 ∷ [])
    ∷ (1 ∷ 5 ∷ []) ∷ (2 ∷ 6 ∷ []) ∷ (3 ∷ 7 ∷ []) ∷ (4 ∷ 8 ∷ []) ∷ (5 ∷ 6 ∷ []) ∷ (5 ∷ 6 ∷ []) ∷ (5 ∷ 7 ∷ []) ∷ (6 ∷ 8 ∷ [])
    ∷ (7 ∷ 8 ∷ []) ∷ (7 ∷ 8 ∷ []) ∷ (5 ∷ 7 ∷ []) ∷ (6 ∷ 8 ∷ []) ∷ (1 ∷ 5 ∷ []) ∷ (2 ∷ 6 ∷ []) ∷ (3 ∷ 7 ∷ []) ∷ (4 ∷ 8 ∷ []) ∷ [])
    ∷ ((1 ∷ 3 ∷ 4 ∷ 5 ∷ []) ∷ (2 ∷ 3 ∷ 4 ∷ 6 ∷ []) ∷ (1 ∷ 5 ∷ 7 ∷ 8 ∷ []) ∷ (2 ∷ 6 ∷ 7 ∷ 8 ∷ []) ∷ (1 ∷ 9 ∷ 10 ∷ 13 ∷ [])
    ∷ (2 ∷ 9 ∷ 10 ∷ 14 ∷ []) ∷ (3 ∷ 9 ∷ 11 ∷ 15 ∷ []) ∷ (4 ∷ 10 ∷ 12 ∷ 16 ∷ []) ∷ (5 ∷ 11 ∷ 12 ∷ 17 ∷ [])
    ∷ (6 ∷ 11 ∷ 12 ∷ 18 ∷ []) ∷ (7 ∷ 9 ∷ 11 ∷ 19 ∷ []) ∷ (8 ∷ 10 ∷ 12 ∷ 20 ∷ []) ∷ (13 ∷ 15 ∷ 16 ∷ 17 ∷ [])
    ∷ (14 ∷ 15 ∷ 16 ∷ 18 ∷ []) ∷ (13 ∷ 17 ∷ 19 ∷ 20 ∷ []) ∷ (14 ∷ 18 ∷ 19 ∷ 20 ∷ []) ∷ (1 ∷ 13 ∷ 21 ∷ 22 ∷ [])
    ∷ (2 ∷ 14 ∷ 21 ∷ 22 ∷ []) ∷ (3 ∷ 15 ∷ 21 ∷ 23 ∷ []) ∷ (4 ∷ 16 ∷ 22 ∷ 24 ∷ []) ∷ (5 ∷ 17 ∷ 23 ∷ 24 ∷ [])
    ∷ (6 ∷ 18 ∷ 23 ∷ 24 ∷ []) ∷ (7 ∷ 19 ∷ 21 ∷ 23 ∷ []) ∷ (8 ∷ 20 ∷ 22 ∷ 24 ∷ []) ∷ [])
    ∷ ((1 ∷ 5 ∷ 7 ∷ 8 ∷ 9 ∷ 13 ∷ []) ∷ (2 ∷ 6 ∷ 7 ∷ 8 ∷ 10 ∷ 14 ∷ []) ∷ (3 ∷ 5 ∷ 9 ∷ 11 ∷ 12 ∷ 15 ∷ [])
    ∷ (4 ∷ 6 ∷ 10 ∷ 11 ∷ 12 ∷ 16 ∷ []) ∷ (1 ∷ 13 ∷ 17 ∷ 19 ∷ 20 ∷ 21 ∷ []) ∷ (2 ∷ 14 ∷ 18 ∷ 19 ∷ 20 ∷ 22 ∷ [])
    ∷ (3 ∷ 15 ∷ 17 ∷ 21 ∷ 23 ∷ 24 ∷ []) ∷ (4 ∷ 16 ∷ 18 ∷ 22 ∷ 23 ∷ 24 ∷ []) ∷ [])
    ∷ []

torus_of_cubes_critical : map (λ dim. length (unpaired (chosen torus_of_cubes) dim (count torus_of_cubes dim))) (0 ∷ 1 ∷ 2 ∷ 3 ∷ []) ≡ 1 ∷ 3 ∷ 3 ∷ 1 ∷ []
unfolding torus_of_cubes
torus_of_cubes_critical = refl
