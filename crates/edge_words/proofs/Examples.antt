-- The words of small spaces, by the definitions.
use Rattle.std.proofs.Common.{◌≡◌, List, [], ◌∷◌, true, false, Some, None, refl}
use Rattle.std.specs.Prelude.{pos, negsuc}
use Rattle.face_poset.specs.declared.cells.Pair.{Pair}
use Rattle.face_poset.specs.Poset.{Layers}
use Rattle.face_poset.specs.Below.{cell_at}
use Rattle.vector_field.specs.Pairs.{pair}
use Rattle.sheet_laws.specs.Lifts.{critical_edges}
use Rattle.edge_words.specs.Words.{words, relators, presentation_of}
use Rattle.edge_words.specs.Limits.{first_long, too_long}
use Rattle.edge_words.specs.Labels.{labels_of, satisfies}

-- the projective plane of three squares
abbrev plane : Layers
plane =
    ([] ∷ [] ∷ [] ∷ [] ∷ [])
    ∷ ((1 ∷ 2 ∷ []) ∷ (1 ∷ 3 ∷ []) ∷ (1 ∷ 4 ∷ []) ∷ (2 ∷ 3 ∷ []) ∷ (2 ∷ 4 ∷ []) ∷ (3 ∷ 4 ∷ []) ∷ [])
    ∷ ((1 ∷ 3 ∷ 4 ∷ 6 ∷ []) ∷ (1 ∷ 2 ∷ 5 ∷ 6 ∷ []) ∷ (2 ∷ 3 ∷ 4 ∷ 5 ∷ []) ∷ [])
    ∷ []
    ∷ []

abbrev plane_pairs : List Pair
plane_pairs = pair 0 4 3 ∷ pair 0 2 5 ∷ pair 0 3 6 ∷ pair 1 2 3 ∷ pair 1 1 2 ∷ []

plane_words : words plane plane_pairs ≡ (pos 1 ∷ []) ∷ (pos 1 ∷ []) ∷ [] ∷ (pos 1 ∷ []) ∷ [] ∷ [] ∷ []
plane_words = refl

plane_relators : relators plane plane_pairs ≡ (pos 1 ∷ pos 1 ∷ []) ∷ []
plane_relators = refl

plane_short : too_long plane plane_pairs ≡ None
plane_short = refl

-- two sheets may change places, three may not go round
plane_changed : satisfies 1 2 (2 ∷ 1 ∷ []) (relators plane plane_pairs) ≡ true
plane_changed = refl

plane_round : satisfies 1 3 (2 ∷ 3 ∷ 1 ∷ []) (relators plane plane_pairs) ≡ false
plane_round = refl

-- a torus of four squares
abbrev torus : Layers
torus =
    ([] ∷ [] ∷ [] ∷ [] ∷ [])
    ∷ ((1 ∷ 2 ∷ []) ∷ (1 ∷ 2 ∷ []) ∷ (1 ∷ 3 ∷ []) ∷ (2 ∷ 4 ∷ []) ∷ (3 ∷ 4 ∷ []) ∷ (3 ∷ 4 ∷ []) ∷ (1 ∷ 3 ∷ []) ∷ (2 ∷ 4 ∷ []) ∷ [])
    ∷ ((1 ∷ 3 ∷ 4 ∷ 5 ∷ []) ∷ (2 ∷ 3 ∷ 4 ∷ 6 ∷ []) ∷ (1 ∷ 5 ∷ 7 ∷ 8 ∷ []) ∷ (2 ∷ 6 ∷ 7 ∷ 8 ∷ []) ∷ [])
    ∷ []
    ∷ []

abbrev torus_pairs : List Pair
torus_pairs = pair 0 3 7 ∷ pair 0 4 5 ∷ pair 0 2 4 ∷ pair 1 1 3 ∷ pair 1 2 4 ∷ pair 1 3 2 ∷ []

torus_generators : critical_edges torus torus_pairs ≡ 6 ∷ 8 ∷ []
torus_generators = refl

torus_words :
    words torus torus_pairs
    ≡ (negsuc 1 ∷ []) ∷ (pos 1 ∷ negsuc 1 ∷ []) ∷ (pos 1 ∷ negsuc 1 ∷ negsuc 0 ∷ []) ∷ [] ∷ [] ∷ (pos 1 ∷ []) ∷ [] ∷ (pos 2 ∷ []) ∷ []
torus_words = refl

torus_relators : relators torus torus_pairs ≡ (negsuc 1 ∷ pos 1 ∷ pos 2 ∷ negsuc 0 ∷ []) ∷ []
torus_relators = refl

-- three sheets that go round along generator 1, and back along generator 2
torus_labels :
    labels_of 2 3 (2 ∷ 3 ∷ 3 ∷ 1 ∷ 1 ∷ 2 ∷ []) (words torus torus_pairs)
    ≡ (2 ∷ 3 ∷ 1 ∷ [])
    ∷ (3 ∷ 1 ∷ 2 ∷ [])
    ∷ (2 ∷ 3 ∷ 1 ∷ [])
    ∷ (1 ∷ 2 ∷ 3 ∷ [])
    ∷ (1 ∷ 2 ∷ 3 ∷ [])
    ∷ (2 ∷ 3 ∷ 1 ∷ [])
    ∷ (1 ∷ 2 ∷ 3 ∷ [])
    ∷ (3 ∷ 1 ∷ 2 ∷ [])
    ∷ []
torus_labels = refl

-- a 3-sphere with two cells in each dimension: its 2-cells are in pairs
abbrev sphere : Layers
sphere = ([] ∷ [] ∷ []) ∷ ((1 ∷ 2 ∷ []) ∷ (1 ∷ 2 ∷ []) ∷ []) ∷ ((1 ∷ 2 ∷ []) ∷ (1 ∷ 2 ∷ []) ∷ []) ∷ ((1 ∷ 2 ∷ []) ∷ (1 ∷ 2 ∷ []) ∷ []) ∷ []

sphere_presented : presentation_of sphere (pair 0 2 2 ∷ pair 1 1 2 ∷ pair 2 1 2 ∷ []) ≡ record { generators = []; relators = []; words = [] ∷ [] ∷ [] }
sphere_presented = refl

-- two vertices, four edges between them, five bigons: relators without letters
abbrev bigons : Layers
bigons =
    ([] ∷ [] ∷ [])
    ∷ ((1 ∷ 2 ∷ []) ∷ (1 ∷ 2 ∷ []) ∷ (1 ∷ 2 ∷ []) ∷ (1 ∷ 2 ∷ []) ∷ [])
    ∷ ((2 ∷ 3 ∷ []) ∷ (3 ∷ 4 ∷ []) ∷ (1 ∷ 2 ∷ []) ∷ (1 ∷ 2 ∷ []) ∷ (3 ∷ 4 ∷ []) ∷ [])
    ∷ []
    ∷ []

bigons_relators : relators bigons (pair 0 2 4 ∷ pair 1 3 5 ∷ pair 1 2 1 ∷ pair 1 1 4 ∷ []) ≡ [] ∷ [] ∷ []
bigons_relators = refl

-- letters in all: 49,999,998 before, then words of one letter and of two
all_too_long : first_long 49999998 ((cell_at 1 7, pos 1 ∷ []) ∷ (cell_at 2 4, pos 1 ∷ pos 1 ∷ []) ∷ []) ≡ Some (cell_at 2 4)
all_too_long = refl

all_at_the_limit : first_long 49999997 ((cell_at 1 7, pos 1 ∷ []) ∷ (cell_at 2 4, pos 1 ∷ pos 1 ∷ []) ∷ []) ≡ None
all_at_the_limit = refl
