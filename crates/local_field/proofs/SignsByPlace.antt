-- The signs by places cancel.
use Rattle.std.proofs.Common.{◌≡◌, ℕ, zero, suc, ◌+◌, ◌-◌, ◌<◌, ◌≤◌, List, [], ◌∷◌, ◌&&◌, Bool, true, false, not, cond, length, map, get_or, refl, ap, sym, ◌∙◌, subst, arith}
use Rattle.std.specs.Prelude.{ℤ, pos, ◌+ℤ◌, ◌*ℤ◌}
use Rattle.std.specs.List.Sorted.{IsStrictlyIncreasing}
use Rattle.std.proofs.lemmas.List.Kept.{AllPairs-from_increasing, IsStrictlyIncreasing-filter}
use native.Mathlib.Decide.{dec_lt}
use Prim.{yes, no}
use Rattle.std.proofs.lemmas.Int.{ints}
use Rattle.std.proofs.lemmas.List.{get_or-map, get_or_past, length-map}
use Rattle.number_lists.specs.Words.{upto, holds}
use Rattle.number_lists.specs.Members.{In, here, there}
use Rattle.number_lists.proofs.CallerLemmas.{In-map, map-In, In-upto, upto-In, In-at, In-holds, holds-In, In-filter, filter-In, In-inside, holds-filter, same_bool, increasing-upto, length-upto, get_or-upto, AreDistinct, none, more, distinct-filter, distinct-range}
use Rattle.face_poset.specs.Poset.{IsCell, IsSpace, count, facets_of}
use Rattle.face_poset.specs.Signs.{sign_of, sum_to, SignsCancel}
use Rattle.sphere_collapses.proofs.CallerLemmas.{distinct-from}
use Rattle.local_field.specs.Flags.{other_sign, is_odd, cells_at, cell_at_place, facets_at, flag_negative, negative_at, minus_at, minus_by_place, minus_of, renumbered, IsOf, Rise}
use Rattle.local_field.proofs.Renumbered.{order, place-of, place-once, counts-kept}
use Rattle.local_field.proofs.SignSums.{total, turned, sign-product, two-signs, sign-turned, total-turned, total-zero, total-map, total-members}

-- the sum of the ways down to a target
abbrev way : (space : List (List (List ℕ))) → (ℕ → ℕ → ℕ → Bool) → (dim cell target f : ℕ) → ℤ
way space negative dim cell target f = cond (holds (facets_of space (dim - 1) f) target) (sign_of (negative dim cell f) *ℤ sign_of (negative (dim - 1) f target)) (pos 0)

sum-total : (space : List (List (List ℕ))) (negative : ℕ → ℕ → ℕ → Bool) (dim cell target : ℕ) (fs : List ℕ) → sum_to space negative dim cell target fs ≡ total (way space negative dim cell target) fs
sum-total space negative dim cell target [] = refl
sum-total space negative dim cell target (f ∷ fs) = by (holds (facets_of space (dim - 1) f) target) (sum-total space negative dim cell target fs)
  where
    n : ℤ
    n = sign_of (negative dim cell f) *ℤ sign_of (negative (dim - 1) f target)

    by : (b : Bool) → sum_to space negative dim cell target fs ≡ total (way space negative dim cell target) fs
        → cond b (n +ℤ sum_to space negative dim cell target fs) (sum_to space negative dim cell target fs) ≡ cond b n (pos 0) +ℤ total (way space negative dim cell target) fs
    by true e = ap (λ z. n +ℤ z) e
    by false e = omega (arith, ints, e)

-- an increasing list has no number twice
distinct-of : (xs : List ℕ) → IsStrictlyIncreasing xs → AreDistinct xs
distinct-of xs h = distinct-from xs (λ i j d l m e. omega (arith, AllPairs-from_increasing xs h i j d l m, e))

odd-less : (d : ℕ) → 1 ≤ d → is_odd (d - 1) ≡ not (is_odd d)
odd-less zero l = absurd (omega (arith, l))
odd-less (suc d) l =
    let e : suc d - 1 ≡ d = omega arith in
    ap is_odd e ∙ twice (is_odd d)
  where
    twice : (b : Bool) → b ≡ not (not b)
    twice true = refl
    twice false = refl

module _ (space : List (List (List ℕ))) (valid : IsSpace space) (cells : List (List ℕ)) (h : IsOf space cells) (negative : ℕ → ℕ → ℕ → Bool) where
  abbrev size : ℕ → ℕ
  size d = length (cells_at cells d)

  abbrev row : ℕ → ℕ → ℕ
  row d p = cell_at_place cells d p

  abbrev neg : ℕ → ℕ → ℕ → Bool
  neg d p f = holds (facets_of (minus_of space negative cells) d p) f

  -- what stands at a place
  listed : (F : ℕ → List ℕ) (n p : ℕ) → 1 ≤ p → p ≤ n → get_or (map F (upto n)) (p - 1) [] ≡ F p
  listed F n p low high =
      let l : p - 1 < length (upto n) = omega (arith, length-upto n, low, high) in
      let e : p - 1 + 1 ≡ p = omega (arith, low) in
      get_or-map F (upto n) (p - 1) 0 [] l ∙ ap F (get_or-upto n (p - 1) (omega (arith, low, high)) ∙ e)

  facets-there : (d p : ℕ) → 1 ≤ d → d ≤ 3 → 1 ≤ p → p ≤ size d → facets_of (renumbered space cells) d p ≡ facets_at space cells d p
  facets-there zero p a b low high = absurd (omega (arith, a))
  facets-there (suc zero) p a b low high = listed (facets_at space cells 1) (size 1) p low high
  facets-there (suc (suc zero)) p a b low high = listed (facets_at space cells 2) (size 2) p low high
  facets-there (suc (suc (suc zero))) p a b low high = listed (facets_at space cells 3) (size 3) p low high
  facets-there (suc (suc (suc (suc d)))) p a b low high = absurd (omega (arith, b))

  pub minus-there : (d p : ℕ) → 1 ≤ d → d ≤ 3 → 1 ≤ p → p ≤ size d → facets_of (minus_of space negative cells) d p ≡ minus_at space negative cells d p
  minus-there zero p a b low high = absurd (omega (arith, a))
  minus-there (suc zero) p a b low high = listed (minus_at space negative cells 1) (size 1) p low high
  minus-there (suc (suc zero)) p a b low high = listed (minus_at space negative cells 2) (size 2) p low high
  minus-there (suc (suc (suc zero))) p a b low high = listed (minus_at space negative cells 3) (size 3) p low high
  minus-there (suc (suc (suc (suc d)))) p a b low high = absurd (omega (arith, b))

  neg-at : (d p q : ℕ) → 1 ≤ d → d ≤ 3 → 1 ≤ p → p ≤ size d → In q (facets_at space cells d p) → neg d p q ≡ negative_at space negative cells d p q
  neg-at d p q a b low high i =
      ap (λ (xs : List ℕ). holds xs q) (minus-there d p a b low high)
      ∙ (holds-filter (negative_at space negative cells d p) (facets_at space cells d p) q ∙ (ap (λ (t : Bool). negative_at space negative cells d p q && t) (In-holds i) ∙ and-true (negative_at space negative cells d p q)))
    where
      and-true : (t : Bool) → t && true ≡ t
      and-true true = refl
      and-true false = refl

  -- a place among the facets: its cell is a facet, and back
  pub facet-in : (d p q : ℕ) → In q (facets_at space cells d p) → (1 ≤ q) × (q ≤ size (d - 1)) × In (row (d - 1) q) (facets_of space d (row d p))
  facet-in d p q i =
      let test : ℕ → Bool = λ q. holds (facets_of space d (row d p)) (row (d - 1) q) in
      let w = upto-In (size (d - 1)) q (In-inside test (upto (size (d - 1))) i) in
      (w.0, w.1, holds-In (facets_of space d (row d p)) (filter-In test (upto (size (d - 1))) i))

  in-facet : (d p q : ℕ) → 1 ≤ q → q ≤ size (d - 1) → In (row (d - 1) q) (facets_of space d (row d p)) → In q (facets_at space cells d p)
  in-facet d p q a b i = In-filter (λ q. holds (facets_of space d (row d p)) (row (d - 1) q)) (In-upto (size (d - 1)) q a b) (In-holds i)

  -- the same test by places and by cells
  same-test : (d q t : ℕ) → 1 ≤ t → t ≤ size (d - 1) → holds (facets_at space cells d q) t ≡ holds (facets_of space d (row d q)) (row (d - 1) t)
  same-test d q t a b =
      same_bool (holds (facets_at space cells d q) t) (holds (facets_of space d (row d q)) (row (d - 1) t))
      (λ e. In-holds (facet-in d q t (holds-In (facets_at space cells d q) e)).2) (λ e. In-holds (in-facet d q t a b (holds-In (facets_of space d (row d q)) e)))

  cell-of : (d c : ℕ) → 1 ≤ d → 1 ≤ c → c ≤ size d → IsCell (count space (d - 1)) (facets_of space d c)
  cell-of d c low a b = valid.cells d low (c - 1) [] (omega (arith, a, b, h.counts d))

  -- the cells of the facets by places are the facets, each once
  distinct-rows : (d : ℕ) (qs : List ℕ) → AreDistinct qs → ((q : ℕ) → In q qs → (1 ≤ q) × (q ≤ size d)) → AreDistinct (map (row d) qs)
  distinct-rows d [] none w = none
  distinct-rows d (q ∷ qs) (more n e) w =
      more (λ i. (let r = map-In (row d) qs i in let u = w q here in let v = w r.0 (there r.1) in n (subst (λ (x : ℕ). In x qs) (sym (place-once space valid cells h d q r.0 u.0 u.1 v.0 v.1 r.2)) r.1)))
      (distinct-rows d qs e (λ x i. w x (there i)))

  sum-cells : (d p : ℕ) → 1 ≤ d → 1 ≤ p → p ≤ size d → (F : ℕ → ℤ) → total (λ q. F (row (d - 1) q)) (facets_at space cells d p) ≡ total F (facets_of space d (row d p))
  sum-cells d p low a b F =
      let fs : List ℕ = facets_at space cells d p in
      let w = (order space valid cells h d).within p a b in
      let cell : IsCell (count space (d - 1)) (facets_of space d (row d p)) = cell-of d (row d p) low w.0 w.1 in
      let once : AreDistinct fs = distinct-filter (λ q. holds (facets_of space d (row d p)) (row (d - 1) q)) (distinct-range 1 (size (d - 1))) in
      sym (total-map F (row (d - 1)) fs)
      ∙ total-members F (map (row (d - 1)) fs) (facets_of space d (row d p)) (distinct-rows (d - 1) fs once (λ q i. let r = facet-in d p q i in (r.0, r.1))) (distinct-of (facets_of space d (row d p)) cell.rises)
      (λ x i. (let r = map-In (row (d - 1)) fs i in subst (λ (y : ℕ). In y (facets_of space d (row d p))) (sym r.2) (facet-in d p r.0 r.1).2))
      (λ y i. (let k = In-at i in
      let v = cell.within k.0 0 k.1 in
      let q = place-of space valid cells h (d - 1) y (omega (arith, v.0, k.2)) (omega (arith, v.1, k.2, h.counts (d - 1))) in
      subst (λ (z : ℕ). In z (map (row (d - 1)) fs)) q.3 (In-map (row (d - 1)) (in-facet d p q.0 q.1 q.2 (subst (λ (z : ℕ). In z (facets_of space d (row d p))) (sym q.3) i)))))

  -- the sign that is common to all ways
  abbrev common : (d p t : ℕ) → Bool
  common d p t = not (other_sign (flag_negative space negative d (row d p)) (flag_negative space negative (d - 1 - 1) (row (d - 1 - 1) t)))

  none-turned : (k : Bool) → turned k (pos 0) ≡ pos 0
  none-turned true = refl
  none-turned false = refl

  inner : (d p q : ℕ) → 2 ≤ d → d ≤ 3 → In q (facets_at space cells d p) → facets_of (renumbered space cells) (d - 1) q ≡ facets_at space cells (d - 1) q
  inner d p q two three i = let r = facet-in d p q i in facets-there (d - 1) q (omega (arith, two)) (omega (arith, three)) r.0 r.1

  -- one way
  each : (d p t q : ℕ) → 2 ≤ d → d ≤ 3 → 1 ≤ p → p ≤ size d → 1 ≤ t → t ≤ size (d - 1 - 1) → In q (facets_at space cells d p)
      → way (renumbered space cells) neg d p t q ≡ turned (common d p t) (way space negative d (row d p) (row (d - 1 - 1) t) (row (d - 1) q))
  each d p t q two three low high a b i = by (holds (facets_of space (d - 1) (row (d - 1) q)) (row (d - 1 - 1) t)) refl
    where
      c : ℕ
      c = row (d - 1) q

      here-by : holds (facets_of (renumbered space cells) (d - 1) q) t ≡ holds (facets_of space (d - 1) (row (d - 1) q)) (row (d - 1 - 1) t)
      here-by = ap (λ (xs : List ℕ). holds xs t) (inner d p q two three i) ∙ same-test (d - 1) q t a b

      signs : In t (facets_at space cells (d - 1) q) → sign_of (neg d p q) *ℤ sign_of (neg (d - 1) q t) ≡ turned (common d p t) (sign_of (negative d (row d p) (row (d - 1) q)) *ℤ sign_of (negative (d - 1) (row (d - 1) q) (row (d - 1 - 1) t)))
      signs j =
          let r = facet-in d p q i in
          let x : Bool = negative d (row d p) c in
          let y : Bool = negative (d - 1) c (row (d - 1 - 1) t) in
          let s : Bool = flag_negative space negative d (row d p) in
          let z : Bool = flag_negative space negative (d - 1) c in
          let u : Bool = flag_negative space negative (d - 1 - 1) (row (d - 1 - 1) t) in
          ap (λ (b : Bool). sign_of b *ℤ sign_of (neg (d - 1) q t)) (neg-at d p q (omega (arith, two)) three low high i)
          ∙ (ap (λ (b : Bool). sign_of (negative_at space negative cells d p q) *ℤ sign_of b) (neg-at (d - 1) q t (omega (arith, two)) (omega (arith, three)) r.0 r.1 j)
          ∙ (sign-product (negative_at space negative cells d p q) (negative_at space negative cells (d - 1) q t)
          ∙ (ap (λ (b : Bool). sign_of (other_sign (negative_at space negative cells d p q) (other_sign b (other_sign y (other_sign z u))))) (odd-less d (omega (arith, two)))
          ∙ (ap sign_of (two-signs (is_odd d) x y s z u) ∙ (sign-turned (common d p t) (other_sign x y) ∙ ap (turned (common d p t)) (sym (sign-product x y)))))))

      by : (x : Bool) → holds (facets_of space (d - 1) (row (d - 1) q)) (row (d - 1 - 1) t) ≡ x → way (renumbered space cells) neg d p t q ≡ turned (common d p t) (way space negative d (row d p) (row (d - 1 - 1) t) (row (d - 1) q))
      by true s =
          let j : In t (facets_at space cells (d - 1) q) = holds-In (facets_at space cells (d - 1) q) (same-test (d - 1) q t a b ∙ s) in
          ap (λ (b : Bool). cond b (sign_of (neg d p q) *ℤ sign_of (neg (d - 1) q t)) (pos 0)) (here-by ∙ s)
          ∙ (signs j ∙ ap (turned (common d p t)) (sym (ap (λ (b : Bool). cond b (sign_of (negative d (row d p) (row (d - 1) q)) *ℤ sign_of (negative (d - 1) (row (d - 1) q) (row (d - 1 - 1) t))) (pos 0)) s)))
      by false s =
          ap (λ (b : Bool). cond b (sign_of (neg d p q) *ℤ sign_of (neg (d - 1) q t)) (pos 0)) (here-by ∙ s)
          ∙ (sym (none-turned (common d p t)) ∙ ap (turned (common d p t)) (sym (ap (λ (b : Bool). cond b (sign_of (negative d (row d p) (row (d - 1) q)) *ℤ sign_of (negative (d - 1) (row (d - 1) q) (row (d - 1 - 1) t))) (pos 0)) s)))

  -- a target that is no place
  away : (d p t : ℕ) → 2 ≤ d → d ≤ 3 → holds (upto (size (d - 1 - 1))) t ≡ false → total (way (renumbered space cells) neg d p t) (facets_at space cells d p) ≡ pos 0
  away d p t two three e =
      total-zero (way (renumbered space cells) neg d p t) (facets_at space cells d p)
      (λ q i. ap (λ (b : Bool). cond b (sign_of (neg d p q) *ℤ sign_of (neg (d - 1) q t)) (pos 0))
      (ap (λ (xs : List ℕ). holds xs t) (inner d p q two three i)
      ∙ (holds-filter (λ x. holds (facets_of space (d - 1) (row (d - 1) q)) (row (d - 1 - 1) x)) (upto (size (d - 1 - 1))) t
      ∙ (ap (λ (b : Bool). holds (facets_of space (d - 1) (row (d - 1) q)) (row (d - 1 - 1) t) && b) e ∙ and-false (holds (facets_of space (d - 1) (row (d - 1) q)) (row (d - 1 - 1) t))))))
    where
      and-false : (b : Bool) → b && false ≡ false
      and-false true = refl
      and-false false = refl

  sums : SignsCancel space negative → (d p t : ℕ) → 2 ≤ d → d ≤ 3 → 1 ≤ p → p ≤ size d → total (way (renumbered space cells) neg d p t) (facets_at space cells d p) ≡ pos 0
  sums law d p t two three low high = by (holds (upto (size (d - 1 - 1))) t) refl
    where
      by : (b : Bool) → holds (upto (size (d - 1 - 1))) t ≡ b → total (way (renumbered space cells) neg d p t) (facets_at space cells d p) ≡ pos 0
      by false e = away d p t two three e
      by true e =
          let w = upto-In (size (d - 1 - 1)) t (holds-In (upto (size (d - 1 - 1))) e) in
          let g : ℕ = row d p in
          let u : ℕ = row (d - 1 - 1) t in
          let F : ℕ → ℤ = way space negative d g u in
          let v = (order space valid cells h d).within p low high in
          let none : total F (facets_of space d g) ≡ pos 0 = sym (sum-total space negative d g u (facets_of space d g)) ∙ law d g u two v.0 (omega (arith, v.1, h.counts d)) in
          total-turned (common d p t) (way (renumbered space cells) neg d p t) (λ q. F (row (d - 1) q)) (facets_at space cells d p) (λ q i. each d p t q two three low high w.0 w.1 i)
          ∙ (ap (turned (common d p t)) (sum-cells d p (omega (arith, two)) low high F ∙ none) ∙ none-turned (common d p t))

  pub cancel : SignsCancel space negative → SignsCancel (renumbered space cells) neg
  cancel law d p t two low last =
      let three = top d low last in
      let high : p ≤ size d = omega (arith, last, counts-kept space valid cells h d, h.counts d) in
      sum-total (renumbered space cells) neg d p t (facets_of (renumbered space cells) d p)
      ∙ (ap (total (way (renumbered space cells) neg d p t)) (facets-there d p (omega (arith, two)) three low high) ∙ sums law d p t two three low high)
    where
      top : (d : ℕ) → 1 ≤ p → p ≤ count (renumbered space cells) d → d ≤ 3
      top zero a b = omega arith
      top (suc zero) a b = omega arith
      top (suc (suc zero)) a b = omega arith
      top (suc (suc (suc zero))) a b = omega arith
      top (suc (suc (suc (suc d)))) a b = absurd (omega (arith, a, b))

  rises : (d p : ℕ) → IsStrictlyIncreasing (minus_at space negative cells d p)
  rises d p = IsStrictlyIncreasing-filter (negative_at space negative cells d p) (facets_at space cells d p) (IsStrictlyIncreasing-filter (λ q. holds (facets_of space d (row d p)) (row (d - 1) q)) (upto (size (d - 1))) (increasing-upto (size (d - 1))))

  rows : (d k : ℕ) → IsStrictlyIncreasing (get_or (minus_by_place space negative cells d) k [])
  rows d k = elim (dec_lt k (size d)) [
    | yes l ↦ subst IsStrictlyIncreasing (sym (get_or-map (minus_at space negative cells d) (upto (size d)) k 0 [] (omega (arith, l, length-upto (size d))))) (rises d (get_or (upto (size d)) k 0))
    | no n ↦ subst IsStrictlyIncreasing (sym (get_or_past (minus_by_place space negative cells d) k [] (omega (arith, n, length-map (upto (size d)) (minus_at space negative cells d), length-upto (size d))))) (λ i l. absurd (omega (arith, l)))
  ]

  -- the lists increase
  pub minus-rises : Rise (minus_of space negative cells)
  minus-rises zero p = by (p - 1)
    where
      by : (k : ℕ) → IsStrictlyIncreasing (get_or {A = List ℕ} [] k [])
      by k = λ i l. absurd (omega (arith, l))
  minus-rises (suc zero) p = rows 1 (p - 1)
  minus-rises (suc (suc zero)) p = rows 2 (p - 1)
  minus-rises (suc (suc (suc zero))) p = rows 3 (p - 1)
  minus-rises (suc (suc (suc (suc d)))) p = λ i l. absurd (omega (arith, l))
