-- The signs of flags, one after another, and of facets by places.
use Rattle.std.proofs.Common.{◌≡◌, ◌≢◌, ◌⊎◌, inl, inr, ℕ, zero, suc, ◌+◌, ◌-◌, ◌<◌, ◌≤◌, List, [], ◌∷◌, ◌++◌, Bool, true, false, cond, filter, take, map, length, get_or, refl, ap, sym, ◌∙◌, arith}
use Rattle.std.specs.List.Sorted.{IsStrictlyIncreasing}
use Rattle.std.proofs.lemmas.List.{get_or-map, get_or_past, length-map, map-append}
use native.Mathlib.Decide.{dec_lt}
use Prim.{yes, no}
use Rattle.std.proofs.lemmas.List.Kept.{AllPairs-from_increasing}
use Rattle.number_lists.specs.Words.{upto}
use Rattle.number_lists.proofs.CallerLemmas.{length-upto, get_or-upto, upto_more}
use Rattle.face_poset.specs.Poset.{IsCell, IsSpace, count, facets_of}
use Rattle.local_field.specs.Flags.{other_sign, flag_negative}

-- one more of a list over the numbers from 1
pub numbers-more : {A : Type 0} (F : ℕ → A) (i : ℕ) (old new : List A) (x : A) → new ≡ old ++ x ∷ [] → old ≡ map F (upto i) → x ≡ F (i + 1) → new ≡ map F (upto (i + 1))
numbers-more {A} F i old new x e f g =
    e ∙ (ap (λ (xs : List A). xs ++ x ∷ []) f ∙ (ap (λ (y : A). map F (upto i) ++ y ∷ []) g ∙ sym (ap (map F) (upto_more i) ∙ map-append F (upto i) ((i + 1) ∷ []))))

-- what stands for a number
pub number-at : {A : Type 0} (F : ℕ → A) (n c : ℕ) (xs : List A) (d : A) → xs ≡ map F (upto n) → 1 ≤ c → c ≤ n → get_or xs (c - 1) d ≡ F c
number-at {A} F n c xs d e low high =
    let l : c - 1 < length (upto n) = omega (arith, length-upto n, low, high) in
    let back : c - 1 + 1 ≡ c = omega (arith, low) in
    ap (λ (ys : List A). get_or ys (c - 1) d) e ∙ (get_or-map F (upto n) (c - 1) 0 d l ∙ ap F (get_or-upto n (c - 1) (omega (arith, low, high)) ∙ back))

pub as-many : {A : Type 0} (F : ℕ → A) (n : ℕ) (xs : List A) → xs ≡ map F (upto n) → length xs ≡ n
as-many {A} F n xs e = ap (λ (ys : List A). length ys) e ∙ (length-map (upto n) F ∙ length-upto n)

module _ (space : List (List (List ℕ))) (negative : ℕ → ℕ → ℕ → Bool) where
  -- the first facet of a cell is there
  pub first-there : (d c : ℕ) → IsSpace space → 1 ≤ d → 1 ≤ c → c ≤ count space d → (1 ≤ get_or (facets_of space d c) 0 0) × (get_or (facets_of space d c) 0 0 ≤ count space (d - 1))
  first-there d c valid low a b =
      let cell : IsCell (count space (d - 1)) (facets_of space d c) = valid.cells d low (c - 1) [] (omega (arith, a, b)) in
      cell.within 0 0 (omega (arith, cell.some))

  -- the sign of a flag by its first step
  pub flag-step : (d c : ℕ) → 1 ≤ d → flag_negative space negative d c ≡ other_sign (negative d c (get_or (facets_of space d c) 0 0)) (flag_negative space negative (d - 1) (get_or (facets_of space d c) 0 0))
  flag-step zero c l = absurd (omega (arith, l))
  flag-step (suc d) c l =
      let e : d ≡ suc d - 1 = omega arith in
      ap (λ (k : ℕ). other_sign (negative (suc d) c (get_or (facets_of space (suc d) c) 0 0)) (flag_negative space negative k (get_or (facets_of space (suc d) c) 0 0))) e

-- one entry more of a filtered list
pub filter_more : (f : ℕ → Bool) (xs : List ℕ) (i d : ℕ) (b : Bool) → i < length xs → f (get_or xs i d) ≡ b → filter f (take (i + 1) xs) ≡ filter f (take i xs) ++ cond b (get_or xs i d ∷ []) []
filter_more f xs i d b l e = ap (λ (k : ℕ). filter f (take k xs)) more ∙ by xs i l e
  where
    more : i + 1 ≡ suc i
    more = omega arith

    put : (c : Bool) (x : ℕ) (ys zs : List ℕ) → cond c (x ∷ (ys ++ zs)) (ys ++ zs) ≡ cond c (x ∷ ys) ys ++ zs
    put true x ys zs = refl
    put false x ys zs = refl

    by : (xs : List ℕ) (i : ℕ) → i < length xs → f (get_or xs i d) ≡ b → filter f (take (suc i) xs) ≡ filter f (take i xs) ++ cond b (get_or xs i d ∷ []) []
    by [] i l e = absurd (omega (arith, l))
    by (x ∷ xs) zero l e = ap (λ (c : Bool). cond c (x ∷ []) []) e
    by (x ∷ xs) (suc i) l e =
        ap (λ (ys : List ℕ). cond (f x) (x ∷ ys) ys) (by xs i (omega (arith, l)) e) ∙ put (f x) x (filter f (take i xs)) (cond b (get_or xs i d ∷ []) [])

-- ---- a search in an increasing list

order : (a b : ℕ) → (a < b) ⊎ (b ≤ a)
order zero zero = inr (omega arith)
order zero (suc b) = inl (omega arith)
order (suc a) zero = inr (omega arith)
order (suc a) (suc b) = elim (order a b) [ inl l ↦ inl (omega (arith, l)) | inr l ↦ inr (omega (arith, l)) ]

pub rising_up : (xs : List ℕ) → IsStrictlyIncreasing xs → (i j : ℕ) → i ≤ j → j < length xs → get_or xs i 0 ≤ get_or xs j 0
rising_up xs h i j le lt = elim (order i j) [ inl l ↦ omega (arith, AllPairs-from_increasing xs h i j 0 l lt) | inr l ↦ (let e : i ≡ j = omega (arith, le, l) in omega (arith, ap (λ (k : ℕ). get_or xs k 0) e)) ]

pub beside : (xs : List ℕ) (n place : ℕ) → ((k : ℕ) → k < place → get_or xs k 0 < n) → ((k : ℕ) → place ≤ k → k < length xs → n < get_or xs k 0) → (k : ℕ) → k < length xs → get_or xs k 0 ≢ n
beside xs n place below above k l e = elim (order k place) [ inl m ↦ omega (arith, below k m, e) | inr m ↦ omega (arith, above k m l, e) ]

-- no cell has a dimension above 3
pub small : (space : List (List (List ℕ))) (dim cell : ℕ) → length space ≡ 4 → 1 ≤ cell → cell ≤ count space dim → dim < 4
small space dim cell four a b = elim (dec_lt dim 4) [
  | yes l ↦ l
  | no n ↦ (let e = ap (λ (ls : List (List ℕ)). length ls) (get_or_past space dim [] (omega (arith, n, four))) in absurd (omega (arith, a, b, e)))
]
