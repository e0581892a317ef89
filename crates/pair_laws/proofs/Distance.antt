-- Distances by rounds.
use Rattle.std.proofs.Common.{◌≡◌, ℕ, zero, suc, ◌<◌, ◌≤◌, List, length, refl, ap, arith, sym, ◌∙◌, Bool, true, false, cond, ◌||◌, ◌⊎◌, inl, inr}
use Rattle.std.specs.Prelude.{filter, ◌==◌}
use Rattle.std.specs.List.{list_any}
use Rattle.std.proofs.lemmas.Bool.{eqb-true, or_right, or_cases, cases_lt}
use Rattle.number_lists.specs.Words.{holds}
use Rattle.number_lists.proofs.CallerLemmas.{In-filter, filter-In, In-inside, any-In, any-some, holds-In, In-holds, reaches_is}
use Rattle.number_lists.specs.Reach.{spread, reach, Reaches, at_start, on}
use Rattle.pair_laws.specs.Distance.{within, first, distance_to, HasNearer, NearerIs}

-- ---- the first number that passes

first-passes : (n : ℕ) (b : ℕ → Bool) → b n ≡ true → b (first n b) ≡ true
first-passes zero b e = e
first-passes (suc n) b e = by (b zero) refl (first-passes n (λ k. b (suc k)) e)
  where
    by : (c : Bool) → b zero ≡ c → b (suc (first n (λ k. b (suc k)))) ≡ true → b (cond c zero (suc (first n (λ k. b (suc k))))) ≡ true
    by true z h = z
    by false z h = h

first-before : (n : ℕ) (b : ℕ → Bool) (k : ℕ) → k < first n b → b k ≡ false
first-before zero b k l = absurd (omega (arith, l))
first-before (suc n) b k l = by (b zero) refl k l (λ j m. first-before n (λ k. b (suc k)) j m)
  where
    by : (c : Bool) → b zero ≡ c → (k : ℕ) → k < cond c zero (suc (first n (λ k. b (suc k)))) → ((j : ℕ) → j < first n (λ k. b (suc k)) → b (suc j) ≡ false) → b k ≡ false
    by true z k l h = absurd (omega (arith, l))
    by false z zero l h = z
    by false z (suc k) l h = h k (omega (arith, l))

first-least : (n : ℕ) (b : ℕ → Bool) (k : ℕ) → b k ≡ true → first n b ≤ k
first-least n b k e = by_order (cases_lt k (first n b))
  where
    by_order : (k < first n b) ⊎ (first n b ≤ k) → first n b ≤ k
    by_order (inl h) = absurd (grind (arith, e, first-before n b k h))
    by_order (inr h) = h

module _ (step : ℕ → ℕ → Bool) (all : List ℕ) (root : ℕ) where
  spread-last : (n : ℕ) (xs : List ℕ) → reach step all n (spread step all xs) ≡ spread step all (reach step all n xs)
  spread-last zero xs = refl
  spread-last (suc n) xs = spread-last n (spread step all xs)

  pub within-reach : (n : ℕ) → within step all root n ≡ reach step all n (filter (λ z. z == root) all)
  within-reach zero = refl
  within-reach (suc n) = ap (spread step all) (within-reach n) ∙ sym (spread-last n (filter (λ z. z == root) all))

  spread-step : (xs : List ℕ) (w v : ℕ) → holds xs w ≡ true → step w v ≡ true → holds all v ≡ true → holds (spread step all xs) v ≡ true
  spread-step xs w v h s i = In-holds (In-filter (λ y. holds xs y || list_any (λ x. step x y) xs) (holds-In all i) (or_right (holds xs v) (list_any (λ x. step x v) xs) (any-In (λ x. step x v) (holds-In xs h) s)))

  in_all : (v : ℕ) → holds all root ≡ true → Reaches step all root v → holds all v ≡ true
  in_all v r at_start = r
  in_all v r (on h s i) = i

  pub reached : (n v : ℕ) → holds (within step all root n) v ≡ true → Reaches step all root v
  reached zero v e = rw (eqb-true v root (filter-In (λ z. z == root) all (holds-In (filter (λ z. z == root) all) e))) at_start
  reached (suc n) v e = elim (or_cases _ _ (filter-In (λ y. holds (within step all root n) y || list_any (λ x. step x y) (within step all root n)) all (holds-In (spread step all (within step all root n)) e))) [
    | inl k ↦ reached n v k
    | inr k ↦ (let s = any-some (λ x. step x v) (within step all root n) k in on (reached n s.0 (In-holds s.1)) s.2 (In-holds (In-inside (λ y. holds (within step all root n) y || list_any (λ x. step x y) (within step all root n)) all (holds-In (spread step all (within step all root n)) e))))
  ]

  nearer : (v : ℕ) → holds all root ≡ true → Reaches step all root v → (v == root) ≡ false → HasNearer step all root v
  nearer v r h d = by (distance_to step all root v) refl
    where
      passes : holds (within step all root (distance_to step all root v)) v ≡ true
      passes = first-passes (length all) (λ n. holds (within step all root n) v) (rw (within-reach (length all)) ((reaches_is step all root v r).1 h))

      by : (n : ℕ) → distance_to step all root v ≡ n → HasNearer step all root v
      by zero e = absurd (grind (arith, d, filter-In (λ z. z == root) all (holds-In (filter (λ z. z == root) all) (rw e at passes))))
      by (suc m) e =
          let missing = first-before (length all) (λ n. holds (within step all root n) v) m (rw e (omega arith)) in
          let t = filter-In (λ y. holds (within step all root m) y || list_any (λ x. step x y) (within step all root m)) all (holds-In (spread step all (within step all root m)) (rw e at passes)) in
          let s = any-some (λ x. step x v) (within step all root m) (rw missing at t) in
          let low = first-least (length all) (λ n. holds (within step all root n) s.0) m (In-holds s.1) in
          record { round = m; nearer = s.0; distance = e; distance_of = exact s.0 m (cases_lt (distance_to step all root s.0) m) low (first-passes (length all) (λ n. holds (within step all root n) s.0) (rw (within-reach (length all)) ((reaches_is step all root s.0 r).1 ((reached m s.0 (In-holds s.1)))))) s.2 e; steps = s.2; there = In-holds s.1; not_there = missing }
        where
          exact : (w m : ℕ) → (distance_to step all root w < m) ⊎ (m ≤ distance_to step all root w) → distance_to step all root w ≤ m → holds (within step all root (distance_to step all root w)) w ≡ true → step w v ≡ true → distance_to step all root v ≡ suc m → distance_to step all root w ≡ m
          exact w m (inr l) g p s e = omega (arith, l, g)
          exact w m (inl l) g p s e = absurd (grind (arith, spread-step (within step all root (distance_to step all root w)) w v p s (in_all v r h), first-before (length all) (λ n. holds (within step all root n) v) (suc (distance_to step all root w)) (rw e (omega (arith, l)))))

pub nearer_is : NearerIs
nearer_is step all root v r h d = nearer step all root v r h d
