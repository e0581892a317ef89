-- The definitions on worked examples.
use Rattle.std.proofs.Common.{◌≡◌, ℕ, List, [], ◌∷◌, map, true, false, refl}
use Rattle.face_poset.specs.declared.cells.Pair.{Pair}
use Rattle.vector_field.specs.Pairs.{pair}
use Rattle.sheet_laws.specs.Tables.{column, is_table, renumbered, is_least}
use Rattle.sheet_laws.specs.Labellings.{is_labelling, is_connected}
use Rattle.sheet_laws.specs.Lifts.{critical_edges, lift, is_cover}

-- ---- tables

second-column : column 2 3 (2 ∷ 1 ∷ 3 ∷ 3 ∷ 1 ∷ 2 ∷ []) 2 ≡ 1 ∷ 3 ∷ 2 ∷ []
second-column = refl

table : is_table 2 3 (2 ∷ 1 ∷ 3 ∷ 3 ∷ 1 ∷ 2 ∷ []) ≡ true
table = refl

-- a number twice in a column
no-table : is_table 2 2 (2 ∷ 1 ∷ 2 ∷ 2 ∷ []) ≡ false
no-table = refl

-- sheet 1 is called 2, and 2 is called 1
turned : renumbered 1 3 (2 ∷ 1 ∷ 3 ∷ []) (2 ∷ 3 ∷ 1 ∷ []) ≡ 3 ∷ 1 ∷ 2 ∷ []
turned = refl

least : is_least 1 3 (2 ∷ 3 ∷ 1 ∷ []) ≡ true
least = refl

not-least : is_least 1 3 (3 ∷ 1 ∷ 2 ∷ []) ≡ false
not-least = refl

-- ---- the circle: two vertices and two edges between them

abbrev circle : List (List (List ℕ))
circle = ([] ∷ [] ∷ []) ∷ ((1 ∷ 2 ∷ []) ∷ (1 ∷ 2 ∷ []) ∷ []) ∷ [] ∷ [] ∷ []

circle-critical : critical_edges circle (pair 0 2 1 ∷ []) ≡ 2 ∷ []
circle-critical = refl

circle-lift : lift circle (pair 0 2 1 ∷ []) 3 (2 ∷ 3 ∷ 1 ∷ []) ≡ (1 ∷ 2 ∷ 3 ∷ []) ∷ (2 ∷ 3 ∷ 1 ∷ []) ∷ []
circle-lift = refl

circle-covers : map (is_cover circle (pair 0 2 1 ∷ [])) ((1, 1 ∷ []) ∷ (2, 2 ∷ 1 ∷ []) ∷ (3, 2 ∷ 3 ∷ 1 ∷ []) ∷ []) ≡ true ∷ true ∷ true ∷ []
circle-covers = refl

-- one that falls apart, one that is not least, no table
circle-others : map (is_cover circle (pair 0 2 1 ∷ [])) ((2, 1 ∷ 2 ∷ []) ∷ (3, 3 ∷ 1 ∷ 2 ∷ []) ∷ (2, 1 ∷ 1 ∷ []) ∷ []) ≡ false ∷ false ∷ false ∷ []
circle-others = refl

-- ---- the projective plane: four vertices, six edges and three squares

abbrev plane : List (List (List ℕ))
plane =
    ([] ∷ [] ∷ [] ∷ [] ∷ [])
    ∷ ((1 ∷ 2 ∷ []) ∷ (1 ∷ 3 ∷ []) ∷ (1 ∷ 4 ∷ []) ∷ (2 ∷ 3 ∷ []) ∷ (2 ∷ 4 ∷ []) ∷ (3 ∷ 4 ∷ []) ∷ [])
    ∷ ((1 ∷ 3 ∷ 4 ∷ 6 ∷ []) ∷ (1 ∷ 2 ∷ 5 ∷ 6 ∷ []) ∷ (2 ∷ 3 ∷ 4 ∷ 5 ∷ []) ∷ [])
    ∷ []
    ∷ []

abbrev plane_pairs : List Pair
plane_pairs = pair 0 4 3 ∷ pair 0 2 5 ∷ pair 0 3 6 ∷ pair 1 2 3 ∷ pair 1 1 2 ∷ []

-- edges 2 and 1 are forced
plane-lift : lift plane plane_pairs 2 (2 ∷ 1 ∷ []) ≡ (2 ∷ 1 ∷ []) ∷ (2 ∷ 1 ∷ []) ∷ (1 ∷ 2 ∷ []) ∷ (2 ∷ 1 ∷ []) ∷ (1 ∷ 2 ∷ []) ∷ (1 ∷ 2 ∷ []) ∷ []
plane-lift = refl

plane-covers : map (is_cover plane plane_pairs) ((1, 1 ∷ []) ∷ (2, 2 ∷ 1 ∷ []) ∷ []) ≡ true ∷ true ∷ []
plane-covers = refl

-- the walk round the first square does not close, so the lift is no labelling
plane-third : is_labelling plane 3 (lift plane plane_pairs 3 (2 ∷ 3 ∷ 1 ∷ [])) ≡ false
plane-third = refl

-- one sheet beside another
plane-apart : is_connected plane 2 (lift plane plane_pairs 2 (1 ∷ 2 ∷ [])) ≡ false
plane-apart = refl
