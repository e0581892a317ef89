-- What is reached by steps among the numbers of a list. step x y tells whether a step leads from x to y,
-- all is a list of numbers, there a part of it.
--   spread step all there          the numbers of all that are there, or one step from one that is
--   reach step all rounds there    the numbers reached in at most so many rounds
--   reaches step all x y           whether steps lead from x to y inside all: a test, by as many rounds as all is long
--   Reaches step all x y           steps lead from x to y inside all
--   ReachesIs                      the test tells whether steps lead there
use Rattle.std.specs.Prelude.{◌≡◌, ◌↔◌, ℕ, zero, suc, ◌==◌, ◌||◌, List, length, filter, Bool, true}
use Rattle.std.specs.List.{list_any}
use Rattle.number_lists.specs.Words.{holds}

abbrev pub spread : (ℕ → ℕ → Bool) → (all there : List ℕ) → List ℕ
spread step all there = filter (λ y. holds there y || list_any (λ x. step x y) there) all

abbrev pub reach : (ℕ → ℕ → Bool) → (all : List ℕ) → (rounds : ℕ) → (there : List ℕ) → List ℕ
reach step all zero there = there
reach step all (suc rounds) there = reach step all rounds (spread step all there)

abbrev pub reaches : (ℕ → ℕ → Bool) → (all : List ℕ) → (x y : ℕ) → Bool
reaches step all x y = holds (reach step all (length all) (filter (λ z. z == x) all)) y

pub data Reaches (step : ℕ → ℕ → Bool) (all : List ℕ) (x : ℕ) : ℕ → Type 0 where
  at_start : Reaches step all x x
  on : {y z : ℕ} → Reaches step all x y → step y z ≡ true → holds all z ≡ true → Reaches step all x z

abbrev pub ReachesIs : Type 0
ReachesIs = (step : ℕ → ℕ → Bool) (all : List ℕ) (x y : ℕ) → holds all x ≡ true → (reaches step all x y ≡ true) ↔ Reaches step all x y
