-- The own word of an edge, by its place among the critical ones.
use Rattle.std.proofs.Common.{◌≡◌, ℕ, zero, suc, ◌<◌, ◌≤◌, List, [], ◌∷◌, length, get_or, refl, ap, sym, ◌∙◌, arith, Bool, true, false, cond, Result, Ok, Err, MatchResult, subst, inl, inr, ◌⊎◌}
use Rattle.std.specs.Prelude.{pos, ◌==◌}
use Rattle.std.specs.List.Sorted.{IsStrictlyIncreasing, IsBinarySearchResult}
use Rattle.std.specs.Ordering.{nat_cmp}
use Rattle.std.proofs.lemmas.List.{get_or_default}
use Rattle.std.proofs.lemmas.List.Sorted.{searched}
use Rattle.std.proofs.lemmas.Bool.{eqb-true, eq-eqb, cases_lt}
use Rattle.number_lists.specs.Words.{holds}
use Rattle.number_lists.proofs.CallerLemmas.{increasing_head, increasing_tail, In-holds, holds-In, at-In, holds-none}
use Rattle.sheet_laws.specs.Permutations.{back}
use Rattle.sheet_laws.proofs.CallerLemmas.{back-range}
use Rattle.live_laws.specs.Walks.{AreLetters}
use Rattle.edge_words.specs.Words.{own_word}

never_falls : (xs : List ℕ) → IsStrictlyIncreasing xs → (i j : ℕ) → i ≤ j → j < length xs → get_or xs i 0 ≤ get_or xs j 0
never_falls [] h i j l q = absurd (omega (arith, q))
never_falls (x ∷ xs) h zero zero l q = omega arith
never_falls (x ∷ xs) h zero (suc j) l q = omega (arith, increasing_head x xs h j 0 (omega (arith, q)))
never_falls (x ∷ xs) h (suc i) zero l q = absurd (omega (arith, l))
never_falls (x ∷ xs) h (suc i) (suc j) l q = never_falls xs (increasing_tail x xs h) i j (omega (arith, l)) (omega (arith, q))

back-place : (xs : List ℕ) (i : ℕ) → IsStrictlyIncreasing xs → i < length xs → back xs (get_or xs i 0) ≡ suc i
back-place [] i h l = absurd (omega (arith, l))
back-place (x ∷ xs) zero h l = rw (eq-eqb x x refl) refl
back-place (x ∷ xs) (suc i) h l = by (x == get_or xs i 0) refl (back-place xs i (increasing_tail x xs h) (omega (arith, l)))
  where
    by : (b : Bool) → (x == get_or xs i 0) ≡ b → back xs (get_or xs i 0) ≡ suc i → cond (x == get_or xs i 0) 1 (suc (back xs (get_or xs i 0))) ≡ suc (suc i)
    by true e r = absurd (omega (arith, eqb-true x (get_or xs i 0) e, increasing_head x xs h i 0 (omega (arith, l))))
    by false e r = rw e (ap suc r)

own-there : (xs : List ℕ) (i x : ℕ) → IsStrictlyIncreasing xs → i < length xs → get_or xs i 0 ≡ x → own_word xs x ≡ pos (suc i) ∷ []
own-there xs i x h l e = rw (sym e) (rw (In-holds (at-In xs i 0 l)) (ap (λ (k : ℕ). pos k ∷ []) (back-place xs i h l)))

-- what a search says: the edge is at a place, or not there
pub own-found : (xs : List ℕ) (x : ℕ) (r : Result ℕ ℕ) → IsBinarySearchResult (λ y. nat_cmp y x) xs r → IsStrictlyIncreasing xs → (i : ℕ) → r ≡ Ok i → own_word xs x ≡ pos (suc i) ∷ []
own-found xs x r h rises i e =
    let t : (i < length xs) × (get_or xs i 0 ≡ x) = subst (λ (s : Result ℕ ℕ). MatchResult s (λ i. (i < length xs) × (get_or xs i 0 ≡ x)) (λ i. (i ≤ length xs) × ((k : ℕ) → k < i → get_or xs k 0 < x) × ((k : ℕ) → i ≤ k → k < length xs → x < get_or xs k 0))) e (searched xs x r h (never_falls xs rises)) in
    own-there xs i x rises t.0 t.1

pub place-found : (xs : List ℕ) (x : ℕ) (r : Result ℕ ℕ) → IsBinarySearchResult (λ y. nat_cmp y x) xs r → IsStrictlyIncreasing xs → (i : ℕ) → r ≡ Ok i → i < length xs
place-found xs x r h rises i e =
    let t : (i < length xs) × (get_or xs i 0 ≡ x) = subst (λ (s : Result ℕ ℕ). MatchResult s (λ i. (i < length xs) × (get_or xs i 0 ≡ x)) (λ i. (i ≤ length xs) × ((k : ℕ) → k < i → get_or xs k 0 < x) × ((k : ℕ) → i ≤ k → k < length xs → x < get_or xs k 0))) e (searched xs x r h (never_falls xs rises)) in
    t.0

pub own-missing : (xs : List ℕ) (x : ℕ) (r : Result ℕ ℕ) → IsBinarySearchResult (λ y. nat_cmp y x) xs r → IsStrictlyIncreasing xs → (i : ℕ) → r ≡ Err i → own_word xs x ≡ []
own-missing xs x r h rises i e =
    let t : (i ≤ length xs) × ((k : ℕ) → k < i → get_or xs k 0 < x) × ((k : ℕ) → i ≤ k → k < length xs → x < get_or xs k 0) =
    subst (λ (s : Result ℕ ℕ). MatchResult s (λ i. (i < length xs) × (get_or xs i 0 ≡ x)) (λ i. (i ≤ length xs) × ((k : ℕ) → k < i → get_or xs k 0 < x) × ((k : ℕ) → i ≤ k → k < length xs → x < get_or xs k 0))) e (searched xs x r h (never_falls xs rises)) in
    rw (holds-none xs x (λ k d l q. by k l (get_or_default xs k 0 d l ∙ q) (cases_lt k i) t.1 t.2)) refl
  where
    by : (k : ℕ) → k < length xs → get_or xs k 0 ≡ x → (k < i) ⊎ (i ≤ k) → ((k : ℕ) → k < i → get_or xs k 0 < x) → ((k : ℕ) → i ≤ k → k < length xs → x < get_or xs k 0) → ⊥
    by k l q (inl m) below above = omega (arith, below k m, q)
    by k l q (inr m) below above = omega (arith, above k m l, q)

-- the own word has letters of the critical edges
pub own-letters : (xs : List ℕ) (x : ℕ) → AreLetters (length xs) (own_word xs x)
own-letters xs x = by (holds xs x) refl
  where
    by : (b : Bool) → holds xs x ≡ b → AreLetters (length xs) (own_word xs x)
    by true e = rw e (back-range xs x (holds-In xs e), tt)
    by false e = rw e tt
