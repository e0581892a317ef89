-- Spaces with signs: cellular incidence numbers. (Orientations of the cells of a regular CW-complex; textbook.) space
-- is the lists of a space, negative dim cell facet tells whether the sign of a facet of a cell is -1; cells are
-- numbered from 1 in their dimension.
--   sum_over f xs                  the sum of what f gives on the list
--   EdgesBalance space negative    over the two facets of each edge the signs sum to 0
--   IsOriented space negative      so they do, and over each cell and each facet of its facets the products of signs
--                                  sum to 0
--   SignedSpace                    a space, and of each cell the list of those facets that have the sign -1
--   negative_in signed             the signs of such a space
use Rattle.std.specs.Prelude.{◌≡◌, ℕ, ◌≤◌, List, [], ◌∷◌, Bool, ℤ, pos, ◌+ℤ◌}
use Rattle.number_lists.specs.Words.{holds}
use Rattle.face_poset.specs.Poset.{Layers, count, facets_of}
use Rattle.face_poset.specs.Signs.{sign_of, SignsCancel}

abbrev pub sum_over : {A : Type 0} → (A → ℤ) → List A → ℤ
sum_over f [] = pos 0
sum_over f (x ∷ xs) = f x +ℤ sum_over f xs

abbrev pub EdgesBalance : Layers → (ℕ → ℕ → ℕ → Bool) → Type 0
EdgesBalance space negative =
    (edge : ℕ)
    → 1 ≤ edge
    → edge ≤ count space 1
    → sum_over (λ v. sign_of (negative 1 edge v)) (facets_of space 1 edge) ≡ pos 0

pub record IsOriented (space : Layers) (negative : ℕ → ℕ → ℕ → Bool) : Type 0 where
  pub cancel : SignsCancel space negative
  pub balance : EdgesBalance space negative

pub record SignedSpace : Type 0 where
  pub space : Layers
  pub minus : Layers

abbrev pub negative_in : SignedSpace → (dim cell facet : ℕ) → Bool
negative_in signed dim cell facet = holds (facets_of signed.minus dim cell) facet
