-- Ranks of pairs: the least, pairs one after another, places.
use Rattle.std.proofs.Common.{◌≡◌, ℕ, zero, suc, ◌<◌, ◌≤◌, List, [], ◌∷◌, length, map, refl, ap, arith, sym, ◌∙◌, Bool, true, false, cond, ◌⊎◌, inl, inr}
use Rattle.std.specs.Prelude.{find, Option, Some, None, ◌==◌, not, nat_lt}
use Rattle.std.proofs.lemmas.Bool.{eqb-true, eq-eqb, not-true, or_cases, false≢true}
use Rattle.number_lists.specs.Members.{In, here, there}
use Rattle.number_lists.specs.Words.{holds}
use Rattle.number_lists.proofs.CallerLemmas.{In-cases, In-filter, filter-In, In-inside, any-In, any-some, all-In, In-all, map-In, holds-In}
use Rattle.pair_laws.specs.Tree.{Link, distinct}
use Rattle.pair_laws.specs.Ranks.{others, is_lower, comes_before, IsRanked, NeverStuck, place, OrderedRanked, without, arranged, ordered, IsArranged, ArrangedIs, ArrangedOnce}
use Rattle.pair_laws.proofs.Lists.{find-some, find-none, filter-less, not_yet}

-- a pair whose lower has the least rank
least : (r : ℕ → ℕ) (p : Link) (ps : List Link) → (q : Link) × In q (p ∷ ps) × ((s : Link) → In s (p ∷ ps) → r q.lower ≤ r s.lower)
least r p [] = (p, here, λ s h. alone s h)
  where
    alone : (s : Link) → In s (p ∷ []) → r p.lower ≤ r s.lower
    alone s here = omega arith
    alone s (there h) = elim h [ ]
least r p (q ∷ ps) = by (least r q ps) (nat_lt (r p.lower) (r (least r q ps).0.lower)) refl
  where
    by : (m : (t : Link) × In t (q ∷ ps) × ((s : Link) → In s (q ∷ ps) → r t.lower ≤ r s.lower)) (b : Bool) → nat_lt (r p.lower) (r m.0.lower) ≡ b
        → (t : Link) × In t (p ∷ q ∷ ps) × ((s : Link) → In s (p ∷ q ∷ ps) → r t.lower ≤ r s.lower)
    by m true e = (p, here, first)
      where
        first : (s : Link) → In s (p ∷ q ∷ ps) → r p.lower ≤ r s.lower
        first s here = omega arith
        first s (there h) = let k = m.2 s h in grind (arith, e, k)
    by m false e = (m.0, there m.1, later)
      where
        later : (s : Link) → In s (p ∷ q ∷ ps) → r m.0.lower ≤ r s.lower
        later s here = grind (arith, e)
        later s (there h) = m.2 s h

pub never_stuck : NeverStuck
never_stuck F r p ps h = let m = least r p ps in record { ready = m.0; among = m.1; first = In-all _ (others F m.0) (λ g k. none g k (is_lower (p ∷ ps) g) refl) }
  where
    none : (g : ℕ) → In g (others F (least r p ps).0) → (b : Bool) → is_lower (p ∷ ps) g ≡ b → not (is_lower (p ∷ ps) g) ≡ true
    none g k true e = let m = least r p ps in let s = any-some (λ q. q.lower == g) (p ∷ ps) e in
        absurd (omega (arith, h.falls m.0 g m.1 k e, rw (eqb-true s.0.lower g s.2) at (m.2 s.0 s.1)))
    none g k false e = rw e refl

pub other-is : (F : ℕ → List ℕ) (p : Link) (g : ℕ) → In g (others F p) → (g == p.lower) ≡ false
other-is F p g h = by (g == p.lower) refl (filter-In (λ g. not (g == p.lower)) (F p.upper) h)
  where
    by : (b : Bool) → (g == p.lower) ≡ b → not b ≡ true → (g == p.lower) ≡ false
    by true e k = absurd (grind (arith, k))
    by false e k = e

pub member_lower : (ps : List Link) (p : Link) → In p ps → is_lower ps p.lower ≡ true
member_lower ps p h = any-In (λ q. q.lower == p.lower) h (eq-eqb p.lower p.lower refl)

ranked-inside : (F : ℕ → List ℕ) (r : ℕ → ℕ) (ps qs : List Link) → ((p : Link) → In p qs → In p ps) → IsRanked F r ps → IsRanked F r qs
ranked-inside F r ps qs i h = record { falls = λ p g k o e. let s = any-some (λ q. q.lower == g) qs e in h.falls p g (i p k) o (any-In (λ q. q.lower == g) (i s.0 s.1) s.2) }

-- who may come before some pairs may come before fewer
pub before-inside : (F : ℕ → List ℕ) (p : Link) (ps qs : List Link) → ((q : Link) → In q qs → In q ps) → comes_before F p ps ≡ true → comes_before F p qs ≡ true
before-inside F p ps qs i e = In-all _ (others F p) (λ g k. none g (is_lower qs g) refl (all-In (λ g. not (is_lower ps g)) e k))
  where
    none : (g : ℕ) (b : Bool) → is_lower qs g ≡ b → not (is_lower ps g) ≡ true → not (is_lower qs g) ≡ true
    none g true k l = let s = any-some (λ q. q.lower == g) qs k in absurd (grind (arith, l, any-In (λ q. q.lower == g) (i s.0 s.1) s.2))
    none g false k l = rw k refl

module _ (F : ℕ → List ℕ) (r : ℕ → ℕ) where
  arranged-is : (n : ℕ) (ps : List Link) → length ps ≤ n → IsRanked F r ps → ((p q : Link) → In p ps → In q ps → p.lower ≡ q.lower → p ≡ q) → IsArranged F ps (arranged F n ps)
  arranged-is n [] l h d = empty n
    where
      empty : (n : ℕ) → IsArranged F [] (arranged F n [])
      empty zero = record { inside = λ p k. k; all = λ p k. k; in_order = refl }
      empty (suc n) = record { inside = λ p k. k; all = λ p k. k; in_order = refl }
  arranged-is zero (p ∷ ps) l h d = absurd (omega (arith, l))
  arranged-is (suc n) (p ∷ ps) l h d = by (find (λ q. comes_before F q (p ∷ ps)) (p ∷ ps)) refl (λ q k. arranged-is n (without q.lower (p ∷ ps)) (omega (arith, l, filter-less (λ s. not (s.lower == q.lower)) (p ∷ ps) k (rw (eq-eqb q.lower q.lower refl) refl)))
      (ranked-inside F r (p ∷ ps) (without q.lower (p ∷ ps)) (λ s i. In-inside (λ s. not (s.lower == q.lower)) (p ∷ ps) i) h)
      (λ s t i j e. d s t (In-inside (λ s. not (s.lower == q.lower)) (p ∷ ps) i) (In-inside (λ s. not (s.lower == q.lower)) (p ∷ ps) j) e))
    where
      by : (o : Option Link) → find (λ q. comes_before F q (p ∷ ps)) (p ∷ ps) ≡ o → ((q : Link) → In q (p ∷ ps) → IsArranged F (without q.lower (p ∷ ps)) (arranged F n (without q.lower (p ∷ ps))))
          → IsArranged F (p ∷ ps) (elim o [ None ↦ [] | Some q ↦ q ∷ arranged F n (without q.lower (p ∷ ps)) ])
      by None e k = let s = never_stuck F r p ps h in absurd (grind (arith, s.first, find-none (λ q. comes_before F q (p ∷ ps)) (p ∷ ps) e s.among))
      by (Some q) e k =
          let f = find-some (λ q. comes_before F q (p ∷ ps)) (p ∷ ps) q e in
          let rest = k q f.0 in
          record { inside = λ s i. into s i rest; all = λ s i. out s i (s.lower == q.lower) refl f.0 rest; in_order = rw (before-inside F q (p ∷ ps) (arranged F n (without q.lower (p ∷ ps))) (λ s i. In-inside (λ s. not (s.lower == q.lower)) (p ∷ ps) (rest.inside s i)) f.1) (rest.in_order) }
        where
          into : (s : Link) → In s (q ∷ arranged F n (without q.lower (p ∷ ps))) → IsArranged F (without q.lower (p ∷ ps)) (arranged F n (without q.lower (p ∷ ps))) → In s (p ∷ ps)
          into s here k = (find-some (λ q. comes_before F q (p ∷ ps)) (p ∷ ps) q e).0
          into s (there i) k = In-inside (λ s. not (s.lower == q.lower)) (p ∷ ps) (k.inside s i)

          out : (s : Link) → In s (p ∷ ps) → (b : Bool) → (s.lower == q.lower) ≡ b → In q (p ∷ ps) → IsArranged F (without q.lower (p ∷ ps)) (arranged F n (without q.lower (p ∷ ps))) → In s (q ∷ arranged F n (without q.lower (p ∷ ps)))
          out s i true x j k = rw (d s q i j (eqb-true s.lower q.lower x)) here
          out s i false x j k = there (k.all s (In-filter (λ s. not (s.lower == q.lower)) i (rw x refl)))

pub arranged_is : ArrangedIs
arranged_is F r ps h d = arranged-is F r (length ps) ps (omega arith) h d

-- ---- places

pub ordered_head : (F : ℕ → List ℕ) (q : Link) (ps : List Link) → ordered F (q ∷ ps) ≡ true → comes_before F q ps ≡ true
ordered_head F q ps o = by (comes_before F q ps) refl o
  where
    by : (b : Bool) → comes_before F q ps ≡ b → cond b (ordered F ps) false ≡ true → comes_before F q ps ≡ true
    by true e z = e
    by false e z = absurd (false≢true z)

pub ordered_tail : (F : ℕ → List ℕ) (q : Link) (ps : List Link) → ordered F (q ∷ ps) ≡ true → ordered F ps ≡ true
ordered_tail F q ps o = rw (ordered_head F q ps o) at o

place-more : (q : Link) (ps : List Link) (g : ℕ) → is_lower ps g ≡ true → place (q ∷ ps) g ≡ suc (place ps g)
place-more q ps g e = rw e refl

place-none : (q : Link) (ps : List Link) (g : ℕ) → is_lower ps g ≡ false → place (q ∷ ps) g ≡ 0
place-none q ps g e = rw e refl

-- one pair more before pairs whose places fall
places-fall : (F : ℕ → List ℕ) (q : Link) (ps : List Link) → comes_before F q ps ≡ true → IsRanked F (place ps) ps → (p : Link) (g : ℕ) → (p ≡ q) ⊎ In p ps → In g (others F p) → is_lower (q ∷ ps) g ≡ true → (b : Bool) → is_lower ps g ≡ b → place (q ∷ ps) g < place (q ∷ ps) p.lower
places-fall F q ps c r p g (inl i) o e true z = absurd (false≢true (sym (not-true (is_lower ps g) (all-In (λ g. not (is_lower ps g)) c (rw i at o))) ∙ z))
places-fall F q ps c r p g (inl i) o e false z =
    elim (or_cases (q.lower == g) (is_lower ps g) e) [
      | inl k ↦ absurd (false≢true (sym (other-is F p g o) ∙ eq-eqb g p.lower (sym (eqb-true q.lower g k) ∙ ap (λ (r : Link). r.lower) (sym i))))
      | inr k ↦ absurd (false≢true (sym z ∙ k))
    ]
places-fall F q ps c r p g (inr i) o e true z = rw (place-more q ps g z, place-more q ps p.lower (member_lower ps p i)) (omega (arith, r.falls p g i o z))
places-fall F q ps c r p g (inr i) o e false z = rw (place-none q ps g z, place-more q ps p.lower (member_lower ps p i)) (omega arith)

pub ordered_ranked : OrderedRanked
ordered_ranked F [] o = record { falls = λ p g i k e. elim i [ ] }
ordered_ranked F (q ∷ ps) o = record { falls = λ p g i k e. places-fall F q ps (ordered_head F q ps o) (ordered_ranked F ps (ordered_tail F q ps o)) p g (In-cases i) k e (is_lower ps g) refl }

-- ---- no pair is arranged twice

pub arranged-inside : (F : ℕ → List ℕ) (n : ℕ) (ps : List Link) (q : Link) → In q (arranged F n ps) → In q ps
arranged-inside F zero ps q i = elim i [ ]
arranged-inside F (suc n) ps q i = by (find (λ p. comes_before F p ps) ps) refl i (λ a j. arranged-inside F n (without a ps) q j)
  where
    by : (o : Option Link) → find (λ p. comes_before F p ps) ps ≡ o → In q (elim o [ None ↦ [] | Some p ↦ p ∷ arranged F n (without p.lower ps) ]) → ((a : ℕ) → In q (arranged F n (without a ps)) → In q (without a ps)) → In q ps
    by None e i k = elim i [ ]
    by (Some p) e i k = elim (In-cases i) [ inl z ↦ rw z ((find-some (λ p. comes_before F p ps) ps p e).0) | inr j ↦ In-inside (λ q. not (q.lower == p.lower)) ps (k p.lower j) ]

pub arranged_once : ArrangedOnce
arranged_once F zero ps = refl
arranged_once F (suc n) ps = by (find (λ p. comes_before F p ps) ps) refl (λ a. arranged_once F n (without a ps))
  where
    absent : (a : ℕ) → holds (map (λ (p : Link). p.lower) (arranged F n (without a ps))) a ≡ true → ⊥
    absent a h =
        let r = map-In (λ (p : Link). p.lower) (arranged F n (without a ps)) (holds-In (map (λ (p : Link). p.lower) (arranged F n (without a ps))) h) in
        let d = filter-In (λ q. not (q.lower == a)) ps (arranged-inside F n (without a ps) r.0 r.1) in
        grind (arith, d, eq-eqb r.0.lower a (sym r.2))

    by : (o : Option Link) → find (λ p. comes_before F p ps) ps ≡ o → ((a : ℕ) → distinct (map (λ (p : Link). p.lower) (arranged F n (without a ps))) ≡ true) → distinct (map (λ (p : Link). p.lower) (elim o [ None ↦ [] | Some p ↦ p ∷ arranged F n (without p.lower ps) ])) ≡ true
    by None e k = refl
    by (Some p) e k = rw (not_yet (holds (map (λ (p : Link). p.lower) (arranged F n (without p.lower ps))) p.lower) (absent p.lower)) (k p.lower)
