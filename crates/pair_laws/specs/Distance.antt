-- Distances by rounds. step x y tells whether a step leads from x to y, all is a list of numbers, root one of them. (Breadth-first search.)
--   within step all root n           the numbers that at most n steps lead to
--   first n passes                   the first number below n that passes, or n
--   distance_to step all root v      the least number of steps that lead to v, or the length of `all` where none do
--   HasNearer step all root v        a step leads to v from a number whose distance is smaller by one
--   NearerIs                         the law: so it is for each number but the root that steps lead to
use Rattle.std.specs.Prelude.{◌≡◌, ℕ, zero, suc, ◌==◌, List, length, filter, Bool, true, false, if◌then◌else◌}
use Rattle.number_lists.specs.Words.{holds}
use Rattle.number_lists.specs.Reach.{spread, Reaches}

abbrev pub within : (step : ℕ → ℕ → Bool) → (all : List ℕ) → (root n : ℕ) → List ℕ
within step all root zero = filter (λ z. z == root) all
within step all root (suc n) = spread step all (within step all root n)

abbrev pub first : (n : ℕ) → (passes : ℕ → Bool) → ℕ
first zero passes = zero
first (suc n) passes = if passes zero then zero else suc (first n (λ k. passes (suc k)))

abbrev pub distance_to : (step : ℕ → ℕ → Bool) → (all : List ℕ) → (root v : ℕ) → ℕ
distance_to step all root v = first (length all) (λ n. holds (within step all root n) v)

pub record HasNearer (step : ℕ → ℕ → Bool) (all : List ℕ) (root v : ℕ) : Type 0 where
  pub round : ℕ
  pub nearer : ℕ
  pub distance : distance_to step all root v ≡ suc round
  pub distance_of : distance_to step all root nearer ≡ round
  pub steps : step nearer v ≡ true
  pub there : holds (within step all root round) nearer ≡ true
  pub not_there : holds (within step all root round) v ≡ false

abbrev pub NearerIs : Type 0
NearerIs =
    (step : ℕ → ℕ → Bool) (all : List ℕ) (root v : ℕ)
    → holds all root ≡ true
    → Reaches step all root v
    → (v == root) ≡ false
    → HasNearer step all root v
