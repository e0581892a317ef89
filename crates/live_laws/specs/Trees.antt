-- The tree of lists of numbers from 1 to m, in order: each list before those that go on from it, and these by their next number. p and q are
-- lists, n is how many numbers may still come, live a test.
--   from a n                   the numbers from a on, n of them
--   beyond m n p               all lists that go on from p by 1 to n numbers
--   down live m n p            the same, going down only where the test holds
--   sub live m n q             q and what goes on from it, if the test holds of q
--   later live m n p v k       what goes on from p by one of the numbers from v on, k of them, with n numbers to come after that
--   rest live m n q r v        what a walk has left below q that stands at q ++ r and tries the number v next
--   Closed live                what the test holds of, it holds of each beginning of it
-- Laws, the four moves of a walk:
--   StepsDown                  the number v may come: the list with it is the next, and the walk stands there
--   StepsOn                    it may not: the walk tries the next number
--   StepsUp                    no number is left, or no number may come any more: the walk tries the next number one place before
--   StepsOut                   and where it stands at q, it has nothing left
use Rattle.std.specs.Prelude.{◌≡◌, ◌⊎◌, ℕ, zero, suc, ◌+◌, ◌-◌, ◌<◌, ◌≤◌, List, [], ◌∷◌, ◌++◌, length, Bool, true, false}
use Rattle.std.specs.List.{flat_map}

abbrev pub from : (a n : ℕ) → List ℕ
from a zero = []
from a (suc n) = a ∷ from (suc a) n

abbrev pub beyond : (m n : ℕ) → List ℕ → List (List ℕ)
beyond m zero p = []
beyond m (suc n) p = flat_map (λ x. (p ++ x ∷ []) ∷ beyond m n (p ++ x ∷ [])) (from 1 m)

abbrev pub down : (live : List ℕ → Bool) → (m n : ℕ) → List ℕ → List (List ℕ)
down live m zero p = []
down live m (suc n) p =
    flat_map
    (λ x. elim (live (p ++ x ∷ [])) [ true ↦ (p ++ x ∷ []) ∷ down live m n (p ++ x ∷ []) | false ↦ [] ])
    (from 1 m)

abbrev pub sub : (live : List ℕ → Bool) → (m n : ℕ) → List ℕ → List (List ℕ)
sub live m n q = elim (live q) [ true ↦ q ∷ down live m n q | false ↦ [] ]

abbrev pub later : (live : List ℕ → Bool) → (m n : ℕ) → List ℕ → (v k : ℕ) → List (List ℕ)
later live m n p v k = flat_map (λ x. sub live m n (p ++ x ∷ [])) (from v k)

abbrev pub rest : (live : List ℕ → Bool) → (m n : ℕ) → (q r : List ℕ) → (v : ℕ) → List (List ℕ)
rest live m zero q r v = []
rest live m (suc n) q [] v = later live m n q v (suc m - v)
rest live m (suc n) q (y ∷ r) v = rest live m n (q ++ y ∷ []) r v ++ later live m n q (suc y) (m - y)

abbrev pub Closed : (live : List ℕ → Bool) → Type 0
Closed live = (p z : List ℕ) → live (p ++ z) ≡ true → live p ≡ true

abbrev pub StepsDown : Type 0
StepsDown =
    (live : List ℕ → Bool) (m n : ℕ) (q r : List ℕ) (v : ℕ)
    → length r < n
    → v ≤ m
    → live (q ++ (r ++ v ∷ [])) ≡ true
    → rest live m n q r v ≡ (q ++ (r ++ v ∷ [])) ∷ rest live m n q (r ++ v ∷ []) 1

abbrev pub StepsOn : Type 0
StepsOn =
    (live : List ℕ → Bool) (m n : ℕ) (q r : List ℕ) (v : ℕ)
    → length r < n
    → v ≤ m
    → live (q ++ (r ++ v ∷ [])) ≡ false
    → rest live m n q r v ≡ rest live m n q r (suc v)

abbrev pub StepsUp : Type 0
StepsUp =
    (live : List ℕ → Bool) (m n : ℕ) (q r : List ℕ) (y v : ℕ)
    → length r < n
    → (m < v) ⊎ (length r + 1 ≡ n)
    → rest live m n q (r ++ y ∷ []) v ≡ rest live m n q r (suc y)

abbrev pub StepsOut : Type 0
StepsOut =
    (live : List ℕ → Bool) (m n : ℕ) (q : List ℕ) (v : ℕ)
    → (m < v) ⊎ (n ≡ 0)
    → rest live m n q [] v ≡ []
