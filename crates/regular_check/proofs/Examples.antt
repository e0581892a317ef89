-- The definitions on small spaces.
use Rattle.std.proofs.Common.{◌≡◌, [], ◌∷◌, refl}
use Rattle.regular_check.specs.Components.{components_of}

-- two points
two_points : components_of (([] ∷ [] ∷ []) ∷ [] ∷ [] ∷ [] ∷ []) ≡ record { count = 2; numbers = 1 ∷ 2 ∷ [] }
two_points = refl

-- an edge from 1 to 3, a point 2, and a circle through 4 and 5
three_parts : components_of (([] ∷ [] ∷ [] ∷ [] ∷ [] ∷ []) ∷ ((1 ∷ 3 ∷ []) ∷ (4 ∷ 5 ∷ []) ∷ (4 ∷ 5 ∷ []) ∷ []) ∷ [] ∷ [] ∷ []) ≡ record { count = 3; numbers = 1 ∷ 2 ∷ 1 ∷ 3 ∷ 3 ∷ [] }
three_parts = refl
