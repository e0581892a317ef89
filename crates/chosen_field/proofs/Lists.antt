-- Lists of numbers, filtered and searched.
use Rattle.std.proofs.Common.{◌≡◌, ◌≢◌, inl, inr, ℕ, zero, suc, ◌+◌, ◌-◌, ◌<◌, ◌≤◌, List, [], ◌∷◌, length, drop, get_or, Bool, true, false, cond, ◌&&◌, refl, ap, sym, ◌∙◌, subst, arith, filter, All, Option, Some, None, is_some, unwrap_or, ◌||◌}
use Rattle.std.specs.List.{find}
use Rattle.std.specs.List.Sorted.{IsStrictlyIncreasing}
use Rattle.std.proofs.lemmas.Bool.{eq-eqb, false≢true, cases_eq, ne_eqb}
use Rattle.std.proofs.lemmas.List.Elements.{All-head, All-tail, All-filter}
use Rattle.number_lists.specs.Words.{upto, holds}
use Rattle.number_lists.proofs.CallerLemmas.{increasing_head, increasing_tail, get_or-upto, length-upto}
use Rattle.chosen_field.specs.Chosen.{without}

module _ {X : Type 0} where
  -- two filters in either order
  pub filter-swap : (p q : X → Bool) (xs : List X) → filter p (filter q xs) ≡ filter q (filter p xs)
  filter-swap p q [] = refl
  filter-swap p q (x ∷ xs) = by (filter-swap p q xs) (p x) (q x) refl refl
    where
      by : filter p (filter q xs) ≡ filter q (filter p xs) → (a b : Bool) → p x ≡ a → q x ≡ b → filter p (filter q (x ∷ xs)) ≡ filter q (filter p (x ∷ xs))
      by h true true e f = rw (e, f) (rw e (ap (λ (ys : List X). x ∷ ys) h))
      by h true false e f = rw (e, f) h
      by h false true e f = rw (e, f) (rw e h)
      by h false false e f = rw (e, f) h

  -- the first that passes both tests
  pub find-swap : (p q : X → Bool) (xs : List X) → find p (filter q xs) ≡ find q (filter p xs)
  find-swap p q [] = refl
  find-swap p q (x ∷ xs) = by (find-swap p q xs) (p x) (q x) refl refl
    where
      by : find p (filter q xs) ≡ find q (filter p xs) → (a b : Bool) → p x ≡ a → q x ≡ b → find p (filter q (x ∷ xs)) ≡ find q (filter p (x ∷ xs))
      by h true true e f = rw (e, f) (rw e refl)
      by h true false e f = rw (e, f) h
      by h false true e f = rw (e, f) (rw e h)
      by h false false e f = rw (e, f) h

  pub find_same : (p q : X → Bool) (xs : List X) → All (λ x. p x ≡ q x) xs → find p xs ≡ find q xs
  find_same p q [] h = refl
  find_same p q (x ∷ xs) h =
      ap (λ (b : Bool). cond b (Some x) (find p xs)) (All-head (λ x. p x ≡ q x) x xs h)
      ∙ ap (λ (y : Option X). cond (q x) (Some x) y) (find_same p q xs (All-tail (λ x. p x ≡ q x) x xs h))

  -- where none is found, none passes
  pub find-none : (p : X → Bool) (xs : List X) → find p xs ≡ None → filter p xs ≡ []
  find-none p [] e = refl
  find-none p (x ∷ xs) e = by (λ h. find-none p xs h) (p x) refl
    where
      by : (find p xs ≡ None → filter p xs ≡ []) → (b : Bool) → p x ≡ b → filter p (x ∷ xs) ≡ []
      by k true f = absurd (false≢true (sym (ap (λ (y : Option X). is_some y) (sym (ap (λ (b : Bool). cond b (Some x) (find p xs)) f) ∙ e))))
      by k false f = rw f (k (sym (ap (λ (b : Bool). cond b (Some x) (find p xs)) f) ∙ e))

  -- a filter by one test and another
  pub filter-both : (p q r : X → Bool) (xs : List X) → All (λ x. r x ≡ (p x && q x)) xs → filter r xs ≡ filter p (filter q xs)
  filter-both p q r [] h = refl
  filter-both p q r (x ∷ xs) h = by (filter-both p q r xs (All-tail (λ x. r x ≡ (p x && q x)) x xs h)) (p x) (q x) refl refl
    where
      here : r x ≡ (p x && q x)
      here = All-head (λ x. r x ≡ (p x && q x)) x xs h

      by : filter r xs ≡ filter p (filter q xs) → (a b : Bool) → p x ≡ a → q x ≡ b → filter r (x ∷ xs) ≡ filter p (filter q (x ∷ xs))
      by rest true true e f = rw (here, e, f) (rw e (ap (λ (ys : List X). x ∷ ys) rest))
      by rest true false e f = rw (here, e, f) rest
      by rest false true e f = rw (here, e, f) (rw e rest)
      by rest false false e f = rw (here, e, f) rest

  -- the first that passes, by its place
  pub find-at : (p : X → Bool) (xs : List X) (i : ℕ) (d : X) → i < length xs → p (get_or xs i d) ≡ true → ((k : ℕ) → k < i → p (get_or xs k d) ≡ false) → find p xs ≡ Some (get_or xs i d)
  find-at p [] i d l e h = absurd (omega (arith, l))
  find-at p (x ∷ xs) zero d l e h = rw e refl
  find-at p (x ∷ xs) (suc i) d l e h = rw (h zero (omega arith)) (find-at p xs i d (omega (arith, l)) e (λ k m. h (suc k) (omega (arith, m))))

  pub find-none_at : (p : X → Bool) (xs : List X) (d : X) → ((k : ℕ) → k < length xs → p (get_or xs k d) ≡ false) → find p xs ≡ None
  find-none_at p [] d h = refl
  find-none_at p (x ∷ xs) d h = rw (h zero (omega arith)) (find-none_at p xs d (λ k m. h (suc k) (omega (arith, m))))

  -- what is found passes
  pub find-passes : (p : X → Bool) (xs : List X) (x : X) → find p xs ≡ Some x → p x ≡ true
  find-passes p [] x e = absurd (false≢true (ap (λ (y : Option X). is_some y) e))
  find-passes p (y ∷ xs) x e = by (λ h. find-passes p xs x h) (p y) refl
    where
      by : (find p xs ≡ Some x → p x ≡ true) → (b : Bool) → p y ≡ b → p x ≡ true
      by k true f = subst (λ (z : X). p z ≡ true) (ap (λ (o : Option X). unwrap_or o y) (sym (ap (λ (b : Bool). cond b (Some y) (find p xs)) f) ∙ e)) f
      by k false f = k (sym (ap (λ (b : Bool). cond b (Some y) (find p xs)) f) ∙ e)

  -- what holds of all holds of what is found
  pub find-held : (P : X → Type 0) (p : X → Bool) (xs : List X) (x : X) → All P xs → find p xs ≡ Some x → P x
  find-held P p [] x h e = absurd (false≢true (ap (λ (y : Option X). is_some y) e))
  find-held P p (y ∷ xs) x h e = by (λ k. find-held P p xs x (All-tail P y xs h) k) (p y) refl
    where
      by : (find p xs ≡ Some x → P x) → (b : Bool) → p y ≡ b → P x
      by k true f = subst P (ap (λ (o : Option X). unwrap_or o y) (sym (ap (λ (b : Bool). cond b (Some y) (find p xs)) f) ∙ e)) (All-head P y xs h)
      by k false f = k (sym (ap (λ (b : Bool). cond b (Some y) (find p xs)) f) ∙ e)

-- ---- numbers

-- the first of the numbers up to n that passes
pub find-upto : (p : ℕ → Bool) (n i : ℕ) → 1 ≤ i → i ≤ n → p i ≡ true → ((k : ℕ) → 1 ≤ k → k < i → p k ≡ false) → find p (upto n) ≡ Some i
find-upto p n i a b e h =
    let at : get_or (upto n) (i - 1) 0 ≡ i = get_or-upto n (i - 1) (omega arith) ∙ omega arith in
    find-at p (upto n) (i - 1) 0 (omega (arith, length-upto n)) (subst (λ (k : ℕ). p k ≡ true) (sym at) e)
    (λ k m. subst (λ (j : ℕ). p j ≡ false) (sym (get_or-upto n k (omega arith))) (h (k + 1) (omega arith) (omega arith)))
    ∙ ap (λ (k : ℕ). Some k) at

pub find-upto_none : (p : ℕ → Bool) (n : ℕ) → ((k : ℕ) → 1 ≤ k → k ≤ n → p k ≡ false) → find p (upto n) ≡ None
find-upto_none p n h =
    find-none_at p (upto n) 0 (λ k m. let l : k < n = omega (arith, length-upto n) in subst (λ (j : ℕ). p j ≡ false) (sym (get_or-upto n k l)) (h (k + 1) (omega arith) (omega arith)))

-- nothing changes without a number that is not there
pub without-other : (xs : List ℕ) (b : ℕ) → All (λ x. b < x) xs → without xs b ≡ xs
without-other [] b h = refl
without-other (x ∷ xs) b h = rw (ne_eqb x b (λ e. omega (arith, e, All-head (λ x. b < x) x xs h))) (ap (λ (ys : List ℕ). x ∷ ys) (without-other xs b (All-tail (λ x. b < x) x xs h)))

-- a number that passes a test goes, and one less passes
pub without-fewer : (p : ℕ → Bool) (xs : List ℕ) (b : ℕ) → IsStrictlyIncreasing xs → holds xs b ≡ true → length (filter p (without xs b)) + cond (p b) 1 0 ≡ length (filter p xs)
without-fewer p [] b r h = absurd (false≢true h)
without-fewer p (x ∷ xs) b r h = elim (cases_eq x b) [
  | inl e ↦ subst (λ (c : ℕ). length (filter p (without (x ∷ xs) c)) + cond (p c) 1 0 ≡ length (filter p (x ∷ xs))) e same
  | inr ne ↦ other ne (without-fewer p xs b (increasing_tail x xs r) (ap (λ (t : Bool). t || holds xs b) (sym (ne_eqb x b ne)) ∙ h))
]
  where
    same : length (filter p (without (x ∷ xs) x)) + cond (p x) 1 0 ≡ length (filter p (x ∷ xs))
    same = rw (eq-eqb x x refl) (rw (without-other xs x (increasing_head x xs r)) (by (p x) refl))
      where
        by : (b : Bool) → p x ≡ b → length (filter p xs) + cond (p x) 1 0 ≡ length (filter p (x ∷ xs))
        by true e = rw e (omega arith)
        by false e = rw e (omega arith)

    other : x ≢ b → length (filter p (without xs b)) + cond (p b) 1 0 ≡ length (filter p xs) → length (filter p (without (x ∷ xs) b)) + cond (p b) 1 0 ≡ length (filter p (x ∷ xs))
    other ne less = rw (ne_eqb x b ne) (by (p x) refl)
      where
        by : (t : Bool) → p x ≡ t → length (filter p (x ∷ without xs b)) + cond (p b) 1 0 ≡ length (filter p (x ∷ xs))
        by true e = rw e (omega (arith, less))
        by false e = rw e less

-- the first that passes goes, and what is left are the others
pub without-first : (p : ℕ → Bool) (xs : List ℕ) (c : ℕ) → IsStrictlyIncreasing xs → find p xs ≡ Some c → without (filter p xs) c ≡ drop 1 (filter p xs)
without-first p [] c r e = refl
without-first p (x ∷ xs) c r e = by (λ h. without-first p xs c (increasing_tail x xs r) h) (p x) refl
  where
    by : (find p xs ≡ Some c → without (filter p xs) c ≡ drop 1 (filter p xs)) → (b : Bool) → p x ≡ b → without (filter p (x ∷ xs)) c ≡ drop 1 (filter p (x ∷ xs))
    by k true f =
        let same : x ≡ c = ap (λ (o : Option ℕ). unwrap_or o x) (sym (ap (λ (b : Bool). cond b (Some x) (find p xs)) f) ∙ e) in
        rw f (subst (λ (c : ℕ). without (x ∷ filter p xs) c ≡ filter p xs) same (rw (eq-eqb x x refl) (without-other (filter p xs) x (All-filter p (λ y. x < y) xs (increasing_head x xs r)))))
    by k false f = rw f (k (sym (ap (λ (b : Bool). cond b (Some x) (find p xs)) f) ∙ e))
