-- The cube of each dimension up to 3, with all its faces, is regular.
use Rattle.std.proofs.Common.{◌≤◌, ℕ, List, [], ◌∷◌, length, refl, arith}
use Rattle.regular_check.specs.Rules.{IsRegular}
use Rattle.tuple_spaces.specs.Tuples.{space_of, boxed}
use Rattle.tuple_spaces.specs.Voxels.{facets}

point_regular : IsRegular (space_of facets (boxed []))
point_regular = refl

interval_regular : IsRegular (space_of facets (boxed (3 ∷ [])))
interval_regular = refl

square_regular : IsRegular (space_of facets (boxed (3 ∷ 3 ∷ [])))
square_regular = refl

cube_regular : IsRegular (space_of facets (boxed (3 ∷ 3 ∷ 3 ∷ [])))
cube_regular = refl

-- three coordinates in each direction
abbrev pub threes : (sizes : List ℕ) → List ℕ
threes [] = []
threes (size ∷ sizes) = 3 ∷ threes sizes

pub threes_regular : (sizes : List ℕ) → length sizes ≤ 3 → IsRegular (space_of facets (boxed (threes sizes)))
threes_regular [] l = point_regular
threes_regular (a ∷ []) l = interval_regular
threes_regular (a ∷ b ∷ []) l = square_regular
threes_regular (a ∷ b ∷ c ∷ []) l = cube_regular
threes_regular (a ∷ b ∷ c ∷ d ∷ sizes) l = absurd (omega arith)

pub threes_few : (sizes : List ℕ) → length sizes ≤ 3 → length (boxed (threes sizes)) ≤ 60000
threes_few [] l = omega arith
threes_few (a ∷ []) l = omega arith
threes_few (a ∷ b ∷ []) l = omega arith
threes_few (a ∷ b ∷ c ∷ []) l = omega arith
threes_few (a ∷ b ∷ c ∷ d ∷ sizes) l = absurd (omega arith)
