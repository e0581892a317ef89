-- A complex with a split. Degree k has N k cells, and the rows `rows k` lead from degree k to the next. Where a complex begins in
-- degree 0, a degree without cells may be put before it: `before` counts on by one. F is the arithmetic of a field.
--   before first after                  `first` at 0, and then what `after` has, counted on by one
--   IsSplitComplex F N rows kinds       two steps give zero, each step has a split, and the first degree has no upper
--   AreReduced F N rows kinds reduced   the reduced rows of each degree
use Rattle.std.specs.Prelude.{◌≡◌, ℕ, zero, suc, List, replicate}
use Rattle.std.specs.List.{AllByRecursion}
use Rattle.small_field.specs.Field.{Ops}
use Rattle.linear_laws.specs.Vectors.{combination}
use Rattle.split_laws.specs.Kinds.{Kind, HasNoUpper}
use Rattle.split_laws.specs.Split.{IsSplit}
use Rattle.split_laws.specs.Solutions.{IsReducedBy}

abbrev pub before : {A : Type 0} → A → (ℕ → A) → ℕ → A
before first after zero = first
before first after (suc k) = after k

pub record IsSplitComplex (F : Ops) (N : ℕ → ℕ) (rows : ℕ → List (List ℕ)) (kinds : ℕ → List Kind) : Type 0 where
  pub closed : (k : ℕ) → AllByRecursion (λ r. combination F (N (suc (suc k))) r (rows (suc k)) ≡ replicate (N (suc (suc k))) 0) (rows k)
  pub splits : (k : ℕ) → IsSplit F (N k) (N (suc k)) (rows k) (kinds k) (kinds (suc k))
  pub bottom : HasNoUpper (kinds 0)

abbrev pub AreReduced : Ops → (ℕ → ℕ) → (ℕ → List (List ℕ)) → (ℕ → List Kind) → (ℕ → List (List ℕ)) → Type 0
AreReduced F N rows kinds reduced = (k : ℕ) → IsReducedBy F (N k) (N (suc k)) (rows k) (kinds k) (kinds (suc k)) (reduced k)
