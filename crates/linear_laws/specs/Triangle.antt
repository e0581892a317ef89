-- Vectors ds, each with a test in ts: the product of a vector with its test is not zero.
--   Triangle k ds ts          each vector is zero on the tests before its own
--   TriangleOver k es ds ts   so are the vectors es on all of these tests
use Rattle.std.specs.Prelude.{◌≡◌, ◌≢◌, ⊤, ℕ, List, [], ◌∷◌, ◌++◌}
use Rattle.std.specs.List.{AllByRecursion}
use Rattle.small_field.specs.Field.{Ops}
use Rattle.linear_laws.specs.Vectors.{dot}

abbrev pub Triangle : Ops → List (List ℕ) → List (List ℕ) → Type 0
Triangle k [] [] = ⊤
Triangle k [] (t ∷ ts) = ⊥
Triangle k (d ∷ ds) [] = ⊥
Triangle k (d ∷ ds) (t ∷ ts) = (dot k d t ≢ 0) × AllByRecursion (λ e. dot k e t ≡ 0) ds × Triangle k ds ts

abbrev pub TriangleOver : Ops → List (List ℕ) → List (List ℕ) → List (List ℕ) → Type 0
TriangleOver k es [] [] = ⊤
TriangleOver k es [] (t ∷ ts) = ⊥
TriangleOver k es (d ∷ ds) [] = ⊥
TriangleOver k es (d ∷ ds) (t ∷ ts) = (dot k d t ≢ 0) × AllByRecursion (λ e. dot k e t ≡ 0) (ds ++ es) × TriangleOver k es ds ts
