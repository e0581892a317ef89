-- Worked examples, by computation: a ball of two vertices, two edges between them, two bigons and one 3-cell.
use Rattle.std.proofs.Common.{◌≡◌, ℕ, List, [], ◌∷◌, true, filter, refl}
use Rattle.std.specs.Prelude.{pos}
use Rattle.face_poset.specs.declared.cells.Pair.{Pair}
use Rattle.face_poset.specs.Poset.{facets_of}
use Rattle.face_poset.specs.Signs.{sign_of, sum_to}
use Rattle.sphere_collapses.specs.Collapses.{boundary_less, collapses}
use Rattle.cell_signs.specs.Oriented.{SignedSpace, negative_in, sum_over}
use Rattle.cell_signs.specs.Along.{solid_negative}
use Rattle.cell_signs.specs.Minus.{first_lists, back_lists, signed_by_lists}

abbrev ball : List (List (List ℕ))
ball = ([] ∷ [] ∷ []) ∷ ((1 ∷ 2 ∷ []) ∷ (1 ∷ 2 ∷ []) ∷ []) ∷ ((1 ∷ 2 ∷ []) ∷ (1 ∷ 2 ∷ []) ∷ []) ∷ ((1 ∷ 2 ∷ []) ∷ []) ∷ []

abbrev pairs : List Pair
pairs = record { dim = 1; lower = 1; upper = 2 } ∷ record { dim = 0; lower = 2; upper = 2 } ∷ []

-- each edge has -1 at its first vertex
first_ends : first_lists ball 2 ≡ (1 ∷ []) ∷ (1 ∷ []) ∷ []
first_ends = refl

-- both bigons go forward along the first edge and back along the second
backward : back_lists ball 2 ≡ (2 ∷ []) ∷ (2 ∷ []) ∷ []
backward = refl

ball_collapses : collapses ball (boundary_less ball 1 1) pairs ≡ true
ball_collapses = refl

-- so the 3-cell has them with opposite signs
opposite : filter (solid_negative ball 1 pairs) (facets_of ball 3 1) ≡ 2 ∷ []
opposite = refl

abbrev signed_ball : SignedSpace
signed_ball = signed_by_lists ball ((1 ∷ []) ∷ (1 ∷ []) ∷ []) ((2 ∷ []) ∷ (2 ∷ []) ∷ []) ((2 ∷ []) ∷ [])

-- over the 3-cell and its second edge
cancels : sum_to ball (negative_in signed_ball) 3 1 2 (facets_of ball 3 1) ≡ pos 0
cancels = refl

-- with the same sign at both bigons they would not
abbrev alike_ball : SignedSpace
alike_ball = signed_by_lists ball ((1 ∷ []) ∷ (1 ∷ []) ∷ []) ((2 ∷ []) ∷ (2 ∷ []) ∷ []) ([] ∷ [])

adds_up : sum_to ball (negative_in alike_ball) 3 1 1 (facets_of ball 3 1) ≡ pos 2
adds_up = refl

balances : sum_over (λ v. sign_of (negative_in signed_ball 1 2 v)) (facets_of ball 1 2) ≡ pos 0
balances = refl
