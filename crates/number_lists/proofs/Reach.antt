-- The rounds reach exactly what steps lead to.
use Rattle.std.proofs.Common.{◌≡◌, ◌⊎◌, inl, inr, ℕ, zero, suc, ◌+◌, ◌<◌, ◌≤◌, List, [], ◌∷◌, length, Bool, true, false, cond, ◌||◌, eqb, filter, refl, ap, arith, sym}
use Rattle.std.specs.List.{list_any}
use Rattle.std.proofs.lemmas.Bool.{eqb-true, eq-eqb, or_left, or_right, or_cases}
use Rattle.number_lists.specs.Words.{holds}
use Rattle.number_lists.specs.Reach.{spread, reach, Reaches, at_start, on, ReachesIs}
use Rattle.number_lists.specs.Members.{In, here, there}
use Rattle.number_lists.proofs.Members.{In-filter, In-inside, filter-In, any-In, any-some, holds-In, In-holds}
use Rattle.number_lists.proofs.Increasing.{length-filter-le}

-- of two tests of which the first is the stricter, the second keeps no fewer, and where it keeps as many the same
keeps : (p q : ℕ → Bool) (xs : List ℕ) → ((y : ℕ) → In y xs → p y ≡ true → q y ≡ true) → (length (filter p xs) ≤ length (filter q xs)) × (length (filter p xs) ≡ length (filter q xs) → filter p xs ≡ filter q xs)
keeps p q [] k = (omega arith, λ e. refl)
keeps p q (x ∷ xs) k = kept (p x) (q x) (k x here) (keeps p q xs (λ y h. k y (there h)))
  where
    kept : (a b : Bool) → (a ≡ true → b ≡ true) → (length (filter p xs) ≤ length (filter q xs)) × (length (filter p xs) ≡ length (filter q xs) → filter p xs ≡ filter q xs)
        → (length (cond a (x ∷ filter p xs) (filter p xs)) ≤ length (cond b (x ∷ filter q xs) (filter q xs))) × (length (cond a (x ∷ filter p xs) (filter p xs)) ≡ length (cond b (x ∷ filter q xs) (filter q xs)) → cond a (x ∷ filter p xs) (filter p xs) ≡ cond b (x ∷ filter q xs) (filter q xs))
    kept true true e h = (omega (arith, h.0), λ g. ap (λ r. x ∷ r) (h.1 (omega (arith, g))))
    kept true false e h = absurd (grind (arith, e))
    kept false true e h = (omega (arith, h.0), λ g. absurd (omega (arith, h.0, g)))
    kept false false e h = h

-- a part of all, by a test
data IsPart (all : List ℕ) : List ℕ → Type 0 where
  part : (p : ℕ → Bool) → IsPart all (filter p all)

length-part : {all xs : List ℕ} → IsPart all xs → length xs ≤ length all
length-part {all} (part p) = length-filter-le p all

part-inside : {all xs : List ℕ} {y : ℕ} → IsPart all xs → In y xs → In y all
part-inside {all} (part p) h = In-inside p all h

module _ (step : ℕ → ℕ → Bool) (all : List ℕ) where
  grows : {xs : List ℕ} → IsPart all xs → (length xs ≤ length (spread step all xs)) × (length xs ≡ length (spread step all xs) → xs ≡ spread step all xs)
  grows (part p) = keeps p (λ y. holds (filter p all) y || list_any (λ x. step x y) (filter p all)) all (λ y h e. or_left (holds (filter p all) y) (list_any (λ x. step x y) (filter p all)) (In-holds (In-filter p h e)))

  part-spread : (xs : List ℕ) → IsPart all (spread step all xs)
  part-spread xs = part (λ y. holds xs y || list_any (λ x. step x y) xs)

  part-reach : (n : ℕ) {xs : List ℕ} → IsPart all xs → IsPart all (reach step all n xs)
  part-reach zero h = h
  part-reach (suc n) {xs} h = part-reach n (part-spread xs)

  stays : (n : ℕ) (xs : List ℕ) → spread step all xs ≡ xs → spread step all (reach step all n xs) ≡ reach step all n xs
  stays zero xs e = e
  stays (suc n) xs e = stays n (spread step all xs) (rw e e)

  -- the rounds come to rest, or each of them brings one more
  Rests : ℕ → List ℕ → Type 0
  Rests n xs = (spread step all (reach step all n xs) ≡ reach step all n xs) ⊎ (length xs + n ≤ length (reach step all n xs))

  rests : (n : ℕ) (xs : List ℕ) → IsPart all xs → Rests n xs
  unfolding Rests
  rests zero xs h = inr (omega arith)
  rests (suc n) xs h = by_length (eqb (length xs) (length (spread step all xs))) refl (grows h) (rests n (spread step all xs) (part-spread xs))
    where
      by_length : (b : Bool) → (eqb (length xs) (length (spread step all xs))) ≡ b
          → (length xs ≤ length (spread step all xs)) × (length xs ≡ length (spread step all xs) → xs ≡ spread step all xs)
          → Rests n (spread step all xs) → Rests (suc n) xs
      by_length true e g k = inl (stays n (spread step all xs) (ap (spread step all) (sym (g.1 (eqb-true _ _ e)))))
      by_length false e g (inl k) = inl k
      by_length false e g (inr k) = inr (grind (arith, eq-eqb, e, g.0, k))

  at_rest : (xs : List ℕ) → IsPart all xs → 0 < length xs → spread step all (reach step all (length all) xs) ≡ reach step all (length all) xs
  unfolding Rests
  at_rest xs h l = elim (rests (length all) xs h) [ inl k ↦ k | inr k ↦ absurd (omega (arith, k, l, length-part (part-reach (length all) h))) ]

  in-spread : {xs : List ℕ} {y : ℕ} → IsPart all xs → In y xs → In y (spread step all xs)
  in-spread {xs} {y} h k = In-filter (λ y. holds xs y || list_any (λ x. step x y) xs) (part-inside h k) (or_left (holds xs y) (list_any (λ x. step x y) xs) (In-holds k))

  in-reach : (n : ℕ) {xs : List ℕ} {y : ℕ} → IsPart all xs → In y xs → In y (reach step all n xs)
  in-reach zero h k = k
  in-reach (suc n) {xs} h k = in-reach n (part-spread xs) (in-spread h k)

  in-step : {xs : List ℕ} {y z : ℕ} → In y xs → step y z ≡ true → holds all z ≡ true → In z (spread step all xs)
  in-step {xs} {y} {z} h e g = In-filter (λ y. holds xs y || list_any (λ x. step x y) xs) (holds-In all g) (or_right (holds xs z) (list_any (λ x. step x z) xs) (any-In (λ x. step x z) h e))

  in-some : {xs : List ℕ} {x : ℕ} → In x xs → 0 < length xs
  in-some here = omega arith
  in-some (there h) = omega arith

  complete : (xs : List ℕ) (x : ℕ) → IsPart all xs → In x xs → {y : ℕ} → Reaches step all x y → In y (reach step all (length all) xs)
  complete xs x h k at_start = in-reach (length all) h k
  complete xs x h k (on q e g) = rw (at_rest xs h (in-some k)) at (in-step (complete xs x h k q) e g)

  sound : (n : ℕ) (xs : List ℕ) (x : ℕ) → ((y : ℕ) → In y xs → Reaches step all x y) → {y : ℕ} → In y (reach step all n xs) → Reaches step all x y
  sound zero xs x k h = k _ h
  sound (suc n) xs x k h = sound n (spread step all xs) x (λ y g. one_round y (or_cases _ _ (filter-In (λ y. holds xs y || list_any (λ x. step x y) xs) all g)) (In-inside (λ y. holds xs y || list_any (λ x. step x y) xs) all g)) h
    where
      one_round : (y : ℕ) → (holds xs y ≡ true) ⊎ (list_any (λ x. step x y) xs ≡ true) → In y all → Reaches step all x y
      one_round y (inl e) g = k y (holds-In xs e)
      one_round y (inr e) g = let s = any-some (λ x. step x y) xs e in on (k s.0 s.1) s.2 (In-holds g)

only_x : (all : List ℕ) (x y : ℕ) (step : ℕ → ℕ → Bool) → In y (filter (λ z. eqb z x) all) → Reaches step all x y
only_x all x y step h = rw (eqb-true y x (filter-In (λ z. eqb z x) all h)) at_start

pub reaches_is : ReachesIs
reaches_is step all x y m = (
  λ e. sound step all (length all) (filter (λ z. eqb z x) all) x (λ z h. only_x all x z step h) (holds-In _ e),
  λ h. In-holds (complete step all (filter (λ z. eqb z x) all) x (part (λ z. eqb z x)) (In-filter (λ z. eqb z x) (holds-In all m) (eq-eqb x x refl)) h),
)
