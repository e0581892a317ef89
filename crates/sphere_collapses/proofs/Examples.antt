-- Worked examples, by computation.
use Rattle.std.proofs.Common.{◌≡◌, ℕ, List, [], ◌∷◌, true, false, refl}
use Rattle.face_poset.specs.declared.cells.Pair.{Pair}
use Rattle.face_poset.specs.Below.{cell_at}
use Rattle.sphere_collapses.specs.Collapses.{boundary_less, collapses, is_free}

-- a ball: two vertices, two edges between them, two bigons
abbrev ball : List (List (List ℕ))
ball = ([] ∷ [] ∷ []) ∷ ((1 ∷ 2 ∷ []) ∷ (1 ∷ 2 ∷ []) ∷ []) ∷ ((1 ∷ 2 ∷ []) ∷ (1 ∷ 2 ∷ []) ∷ []) ∷ ((1 ∷ 2 ∷ []) ∷ []) ∷ []

abbrev first_edge : Pair
first_edge = record { dim = 1; lower = 1; upper = 2 }

abbrev second_vertex : Pair
second_vertex = record { dim = 0; lower = 2; upper = 2 }

one_bigon : boundary_less ball 1 1 ≡ cell_at 0 1 ∷ cell_at 0 2 ∷ cell_at 1 1 ∷ cell_at 1 2 ∷ cell_at 2 2 ∷ []
one_bigon = refl

to_the_first_vertex : collapses ball (boundary_less ball 1 1) (first_edge ∷ second_vertex ∷ []) ≡ true
to_the_first_vertex = refl

vertex_too_soon : collapses ball (boundary_less ball 1 1) (second_vertex ∷ first_edge ∷ []) ≡ false
vertex_too_soon = refl

not_far_enough : collapses ball (boundary_less ball 1 1) (first_edge ∷ []) ≡ false
not_far_enough = refl

-- in the whole sphere no edge is free
both_bigons : is_free ball (cell_at 2 1 ∷ boundary_less ball 1 1) first_edge ≡ false
both_bigons = refl
