-- Worked examples of the definition.
use Rattle.std.proofs.Common.{◌≡◌, refl, ◌∷◌, [], List, ℕ, Result, Ok, Err, map, length}
use Rattle.gap_text.specs.Value.{Value, number, list, values}
use Rattle.array_values.specs.declared.fault.ArrayFault.{ArrayFault}
use Rattle.array_values.specs.declared.fault.ArrayFault.TheVariants.{Ragged, BadDimension}
use Rattle.tuple_spaces.specs.Voxels.{cubical_of}

abbrev at : ℕ → List Value → Value
at p vs = list p (values vs)

abbrev counts : Result (List (List (List ℕ))) ArrayFault → List ℕ
counts (Ok space) = map (λ layer. length layer) space
counts (Err f) = []

-- [1,0,1]: two intervals
gap : cubical_of (at 0 (number 1 1 ∷ number 3 0 ∷ number 5 1 ∷ [])) ≡ Ok (([] ∷ [] ∷ [] ∷ [] ∷ []) ∷ ((1 ∷ 2 ∷ []) ∷ (3 ∷ 4 ∷ []) ∷ []) ∷ [] ∷ [] ∷ [])
gap = refl

-- [[1,1]]: two squares with a common edge
two_squares : cubical_of (at 0 (at 1 (number 2 1 ∷ number 4 1 ∷ []) ∷ []))
    ≡ Ok (([] ∷ [] ∷ [] ∷ [] ∷ [] ∷ [] ∷ [])
    ∷ ((1 ∷ 2 ∷ []) ∷ (2 ∷ 3 ∷ []) ∷ (1 ∷ 4 ∷ []) ∷ (2 ∷ 5 ∷ []) ∷ (3 ∷ 6 ∷ []) ∷ (4 ∷ 5 ∷ []) ∷ (5 ∷ 6 ∷ []) ∷ [])
    ∷ ((1 ∷ 3 ∷ 4 ∷ 6 ∷ []) ∷ (2 ∷ 4 ∷ 5 ∷ 7 ∷ []) ∷ []) ∷ [] ∷ [])
two_squares = refl

-- [[0,1],[1,0]]: two squares with a common corner
corner : counts (cubical_of (at 0 (at 1 (number 2 0 ∷ number 4 1 ∷ []) ∷ at 7 (number 8 1 ∷ number 10 0 ∷ []) ∷ []))) ≡ 7 ∷ 8 ∷ 2 ∷ 0 ∷ []
corner = refl

-- [[[1]]]: a cube
cube : counts (cubical_of (at 0 (at 1 (at 2 (number 3 1 ∷ []) ∷ []) ∷ []))) ≡ 8 ∷ 12 ∷ 6 ∷ 1 ∷ []
cube = refl

-- [[1,1],[1]] and 7
short_row : cubical_of (at 0 (at 1 (number 2 1 ∷ number 4 1 ∷ []) ∷ at 7 (number 8 1 ∷ []) ∷ [])) ≡ Err (Ragged 7)
short_row = refl

no_array : cubical_of (number 0 7) ≡ Err BadDimension
no_array = refl
