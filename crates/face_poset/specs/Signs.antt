-- Signs of the facets of cells. space is the layers of a space; negative dim cell facet tells whether the
-- sign of a facet of a cell is -1.
--   sign_of negative                           1 or -1
--   sum_to space negative dim cell target fs   over the facets fs of a cell, the sum of the products of signs on the ways from
--                                              the cell by a facet to the target, two dimensions below
--   SignsCancel space negative                 over each cell and each facet of its facets these products sum to 0
use Rattle.std.specs.Prelude.{◌≡◌, ℕ, ◌-◌, ◌≤◌, List, [], ◌∷◌, Bool, true, false, cond, ℤ, pos, negsuc, ◌+ℤ◌, ◌*ℤ◌}
use Rattle.number_lists.specs.Words.{holds}
use Rattle.face_poset.specs.Poset.{Layers, count, facets_of}

abbrev pub sign_of : Bool → ℤ
sign_of true = negsuc 0
sign_of false = pos 1

abbrev pub sum_to : Layers → (ℕ → ℕ → ℕ → Bool) → (dim cell target : ℕ) → List ℕ → ℤ
sum_to space negative dim cell target [] = pos 0
sum_to space negative dim cell target (f ∷ fs) =
    cond (holds (facets_of space (dim - 1) f) target)
    ((sign_of (negative dim cell f) *ℤ sign_of (negative (dim - 1) f target)) +ℤ sum_to space negative dim cell target fs)
    (sum_to space negative dim cell target fs)

abbrev pub SignsCancel : Layers → (ℕ → ℕ → ℕ → Bool) → Type 0
SignsCancel space negative =
    (dim cell target : ℕ)
    → 2 ≤ dim
    → 1 ≤ cell
    → cell ≤ count space dim
    → sum_to space negative dim cell target (facets_of space dim cell) ≡ pos 0
