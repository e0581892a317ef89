-- The groups of small spaces, by the definitions.
use Rattle.std.proofs.Common.{◌≡◌, [], ◌∷◌, Some, None, refl}
use Rattle.std.specs.Prelude.{pos}
use Rattle.face_poset.specs.Poset.{Layers}
use Rattle.face_poset.specs.Below.{cell_at}
use Rattle.space_parts.specs.Parts.{piece_of}
use Rattle.part_groups.specs.Groups.{groups_of, whole_cell, first_of, long_word}

-- the projective plane of three squares
abbrev plane : Layers
plane =
    ([] ∷ [] ∷ [] ∷ [] ∷ [])
    ∷ ((1 ∷ 2 ∷ []) ∷ (1 ∷ 3 ∷ []) ∷ (1 ∷ 4 ∷ []) ∷ (2 ∷ 3 ∷ []) ∷ (2 ∷ 4 ∷ []) ∷ (3 ∷ 4 ∷ []) ∷ [])
    ∷ ((1 ∷ 3 ∷ 4 ∷ 6 ∷ []) ∷ (1 ∷ 2 ∷ 5 ∷ 6 ∷ []) ∷ (2 ∷ 3 ∷ 4 ∷ 5 ∷ []) ∷ [])
    ∷ []
    ∷ []

plane_group : groups_of plane ≡ record { edges = 4 ∷ []; relators = (pos 1 ∷ pos 1 ∷ []) ∷ [] } ∷ []
plane_group = refl

plane_short : long_word plane ≡ None
plane_short = refl

-- two edges between the vertices 1 and 3, three between 2 and 5, and the vertex 4 alone
abbrev tangle : Layers
tangle = ([] ∷ [] ∷ [] ∷ [] ∷ [] ∷ []) ∷ ((1 ∷ 3 ∷ []) ∷ (2 ∷ 5 ∷ []) ∷ (1 ∷ 3 ∷ []) ∷ (2 ∷ 5 ∷ []) ∷ (2 ∷ 5 ∷ []) ∷ []) ∷ [] ∷ [] ∷ []

tangle_groups : groups_of tangle ≡ record { edges = 3 ∷ []; relators = [] } ∷ record { edges = 4 ∷ 5 ∷ []; relators = [] } ∷ record { edges = []; relators = [] } ∷ []
tangle_groups = refl

-- a cell of a part by its number in the whole space
third_edge : whole_cell (piece_of tangle 2) (cell_at 1 3) ≡ cell_at 1 5
third_edge = refl

second_is_first : first_of (None ∷ Some (cell_at 1 2) ∷ Some (cell_at 1 1) ∷ []) ≡ Some (cell_at 1 2)
second_is_first = refl
