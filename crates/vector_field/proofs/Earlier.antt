-- What the order of a field is good for.
use Rattle.std.proofs.Common.{◌≡◌, ◌⊎◌, inl, inr, ℕ, zero, suc, ◌+◌, ◌<◌, List, [], ◌∷◌, true, false, not, eqb, length, get_or, refl, ap, sym, ◌∙◌, subst, arith, Contains}
use Rattle.std.specs.List.{list_any}
use Rattle.std.proofs.lemmas.Bool.{eqb-false, not-true, cases_Bool, cases_order}
use Rattle.face_poset.specs.declared.cells.Pair.{Pair}
use Rattle.face_poset.specs.Poset.{facets_of}
use Rattle.vector_field.specs.Pairs.{has_lower, others, IsValid}
use Rattle.vector_field.specs.Paths.{Leads, arrived, along, GradientPath}
use Rattle.vector_field.specs.Laws.{IsClosed, AddedPairCloses, ValidClosesNone, SubstitutionEnds}
use Rattle.number_lists.specs.Members.{In}
use Rattle.number_lists.proofs.CallerLemmas.{filter-In, any-some, at-In, In-Contains, Contains-In}
use Rattle.vector_field.proofs.Lined.{Lined}
use Rattle.vector_field.proofs.Valid.{Goes, lined-from, has_lower-true}
use Rattle.vector_field.proofs.Paths.{other-In}

-- an earlier place stands in the relation to a later one
lined-at : {A : Type 0} (R : A → A → Type 0) (xs : List A) → Lined R xs → (i j : ℕ) (d : A) → i < j → j < length xs → R (get_or xs i d) (get_or xs j d)
lined-at R [] h i j d l k = absurd (omega arith)
lined-at R (x ∷ xs) h i zero d l k = absurd (omega arith)
lined-at R (x ∷ xs) h zero (suc j) d l k = h.0 (get_or xs j d) (at-In xs j d (omega arith))
lined-at R (x ∷ xs) h (suc i) (suc j) d l k = lined-at R xs h.1 i j d (omega arith) (omega arith)

pub not-itself : (space : List (List (List ℕ))) (p : Pair) → In p.lower (others space p) → ⊥
not-itself space p m = eqb-false p.lower p.lower (not-true (eqb p.lower p.lower) (filter-In (λ f. not (eqb f p.lower)) (facets_of space (p.dim + 1) p.upper) m)) refl

module _ (space : List (List (List ℕ))) (pairs : List Pair) (valid : IsValid space pairs) where
  -- a pair whose lower is another facet of an upper stands earlier
  earlier : (p q : Pair) (i j : ℕ) → i < length pairs → j < length pairs → get_or pairs i p ≡ p → get_or pairs j p ≡ q → q.dim ≡ p.dim → In q.lower (others space p) → j < i
  earlier p q i j li lj ei ej same m =
      elim (cases_order i j) [
        | inl e ↦ absurd (not-itself space p (let P : Pair → Type 0 = λ (z : Pair). In z.lower (others space p) in subst P (sym ej ∙ (ap (λ (k : ℕ). get_or pairs k p) (sym e) ∙ ei)) m))
        | inr o ↦ elim o [
          | inl l ↦
              let g : Goes space (get_or pairs i p) (get_or pairs j p) = lined-at (Goes space) pairs (lined-from space pairs valid).lined i j p l lj in
              let P : Pair → Type 0 = λ (z : Pair). Goes space z q in
              let Q : Pair → Type 0 = λ (z : Pair). Goes space (get_or pairs i p) z in
              absurd ((subst P ei (subst Q ej g)).free same m)
          | inr l ↦ l
        ]
      ]

  at : {q : Pair} (p : Pair) → (c : Contains pairs q) → get_or pairs c.0 p ≡ q
  at {q} p c = get_or_same pairs c.0 p q c.1 ∙ c.2
    where
      get_or_same : {A : Type 0} (xs : List A) (k : ℕ) (d e : A) → k < length xs → get_or xs k d ≡ get_or xs k e
      get_or_same [] k d e l = absurd (omega arith)
      get_or_same (x ∷ xs) zero d e l = refl
      get_or_same (x ∷ xs) (suc k) d e l = get_or_same xs k d e (omega arith)

  -- what the pairs lead to from another facet stands earlier
  falls : (dim : ℕ) (r : Pair) (k : Contains pairs r) → r.dim ≡ dim → {g : ℕ} (p : Pair) (i : Contains pairs p) → p.dim ≡ dim → In g (others space p) → Leads space pairs dim r.lower g → k.0 < i.0
  falls dim r k e p i d m arrived = earlier p r i.0 k.0 i.1 k.1 i.2 (at p k) (e ∙ sym d) m
  falls dim r k e p i d m (along q n f o h) =
      let j : Contains pairs q = In-Contains n in
      let a : j.0 < i.0 = earlier p q i.0 j.0 i.1 j.1 i.2 (at p j) (f ∙ sym d) m in
      let b : k.0 < j.0 = falls dim r k e q j f o h in
      omega arith

  none-closed : (p : Pair) → In p pairs → IsClosed space pairs p → ⊥
  none-closed p m h = let c : Contains pairs p = In-Contains m in omega (arith, falls p.dim p c refl p c refl h.other h.leads)

  module _ (dim : ℕ) (P : ℕ → Type 0)
      (free : (p : Pair) (f : ℕ) → In p pairs → p.dim ≡ dim → In f (others space p) → list_any (has_lower dim f) pairs ≡ false → P f)
      (step : (p : Pair) → In p pairs → p.dim ≡ dim → ((f : ℕ) → In f (others space p) → P f) → P p.lower) where
    -- at all places below n
    below : (n : ℕ) (p : Pair) → (c : Contains pairs p) → c.0 < n → p.dim ≡ dim → P p.lower
    below zero p c l d = absurd (omega (arith, l))
    below (suc n) p c l d = step p (Contains-In c) d (λ f o. by f o (cases_Bool (list_any (has_lower dim f) pairs)) (λ q k i e. below n q k i e))
      where
        by : (f : ℕ) → In f (others space p) → (list_any (has_lower dim f) pairs ≡ true) ⊎ (list_any (has_lower dim f) pairs ≡ false)
            → ((q : Pair) → (k : Contains pairs q) → k.0 < n → q.dim ≡ dim → P q.lower) → P f
        by f o (inr e) rec = free p f (Contains-In c) d o e
        by f o (inl e) rec =
            let s = any-some (has_lower dim f) pairs e in
            let t = has_lower-true s.0 dim f s.2 in
            let k : Contains pairs s.0 = In-Contains s.1 in
            let lt : k.0 < c.0 = earlier p s.0 c.0 k.0 c.1 k.1 c.2 (at p k) (t.0 ∙ sym d) (subst (λ (z : ℕ). In z (others space p)) (sym t.1) o) in
            subst P t.1 (rec s.0 k (omega (arith, lt, l)) t.0)

    -- what holds of each facet that is no lower, and of the lower of each pair where it holds of the other facets of the upper, holds of
    -- all lowers
    pub along-field : (p : Pair) → In p pairs → p.dim ≡ dim → P p.lower
    along-field p m d = let c : Contains pairs p = In-Contains m in below (suc c.0) p c (omega arith) d

pub valid_closes_none : ValidClosesNone
valid_closes_none space pairs p valid c h = none-closed space pairs valid p c h

pub substitution_ends : SubstitutionEnds
substitution_ends space pairs dim known valid free step p m d = along-field space pairs valid dim (λ f. known f ≡ true) free step p m d

pub added_pair_closes : AddedPairCloses
added_pair_closes space pairs p m i a b =
    let g : GradientPath space pairs p.dim p.upper p.lower = m p.dim p.lower p.upper i a b in
    record { first = g.first; other = other-In space p g.first g.facet g.other; leads = g.leads }
