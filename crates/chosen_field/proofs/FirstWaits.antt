-- The counts with which a listing begins, and the lowers of the cells above.
use Rattle.std.proofs.Common.{◌≡◌, ◌≢◌, inl, inr, ℕ, zero, suc, ◌+◌, ◌-◌, ◌<◌, ◌≤◌, List, [], ◌∷◌, length, filter, take, set, replicate, get_or, Bool, true, false, cond, nat_le, eqb, All, refl, ap, sym, ◌∙◌, subst, arith}
use Rattle.std.specs.List.Sorted.{IsStrictlyIncreasing}
use Rattle.std.proofs.lemmas.Bool.{cases_eq, cases_lt, eq-eqb, ne_eqb, le-leb, leb-true}
use Rattle.std.proofs.lemmas.List.{get_or-set_same, get_or-set_other, get_or_past, length-set, get_or-replicate, length-replicate, length-append, take_more}
use Rattle.std.proofs.lemmas.List.Elements.{filter-append}
use Rattle.std.proofs.lemmas.List.Kept.{IsStrictlyIncreasing-filter}
use Rattle.number_lists.specs.Words.{upto, holds}
use Rattle.number_lists.specs.Members.{In}
use Rattle.number_lists.proofs.CallerLemmas.{In-filter, filter-In, In-inside, In-holds, holds-In, at-In, In-upto, length-upto, length-inside, distinct_rising, same_bool, filter_same, All-upto, same_increasing}
use Rattle.face_poset.specs.Poset.{count, facets_of, IsSpace}
use Rattle.vector_field.proofs.CallerLemmas.{facets-cell, facet-range}
use Rattle.chosen_field.specs.Listings.{at, positive_at, AreUppers, AreLowers, AreWaits, leaving}
use Rattle.chosen_field.proofs.Uppers.{at-past}
use Rattle.chosen_field.proofs.Waits.{positive-rise, In-positive, positive-In, some-length}

-- ---- what is at a cell after a change

pub at-set_same : (numbers : List ℕ) (c x : ℕ) → 1 ≤ c → c ≤ length numbers → at (set numbers (c - 1) x) c ≡ x
at-set_same numbers c x a b = get_or-set_same numbers (c - 1) x 0 (omega (arith, a, b))

pub at-set_other : (numbers : List ℕ) (c d x : ℕ) → 1 ≤ c → 1 ≤ d → d ≢ c → at (set numbers (c - 1) x) d ≡ at numbers d
at-set_other numbers c d x a b ne = get_or-set_other numbers (c - 1) (d - 1) x 0 (λ e. ne (omega (arith, e, a, b)))

pub at-set : (numbers : List ℕ) (c x d : ℕ) → 1 ≤ c → c ≤ length numbers → 1 ≤ d → at (set numbers (c - 1) x) d ≡ cond (eqb d c) x (at numbers d)
at-set numbers c x d a b low = elim (cases_eq d c) [
  | inl same ↦ ap (at (set numbers (c - 1) x)) same ∙ (at-set_same numbers c x a b ∙ ap (λ (t : Bool). cond t x (at numbers d)) (sym (eq-eqb d c same)))
  | inr ne ↦ at-set_other numbers c d x a low ne ∙ ap (λ (t : Bool). cond t x (at numbers d)) (sym (ne_eqb d c ne))
]

-- by its index
pub at-next : (numbers : List ℕ) (i : ℕ) → get_or numbers i 0 ≡ at numbers (i + 1)
at-next numbers i = ap (λ (k : ℕ). get_or numbers k 0) (let s : i ≡ i + 1 - 1 = omega arith in s)

-- ---- lowers

pub lowers-none : (uppers lowers : List ℕ) (n : ℕ) → lowers ≡ replicate n 0 → AreLowers uppers 0 lowers
lowers-none uppers lowers n e = record {
  only = λ u a b. absurd (omega (arith, b, zero_at u, ap (λ (xs : List ℕ). at xs u) e));
  all = λ c a b d. absurd (omega (arith, a, b));
}
  where
    zero_at : (u : ℕ) → at (replicate n 0) u ≡ 0
    zero_at u = elim (cases_lt (u - 1) n) [ inl l ↦ get_or-replicate n (u - 1) 0 0 l | inr l ↦ get_or_past (replicate n 0) (u - 1) 0 (omega (arith, l, length-replicate {A = ℕ} n 0)) ]

module _ (space : List (List (List ℕ))) (dim : ℕ) (uppers lowers new : List ℕ) (i : ℕ) (are : AreUppers space dim uppers) (long : length lowers ≡ count space (dim + 1)) (h : AreLowers uppers i lowers) where
  pub lowers-pass : at uppers (i + 1) ≡ 0 → AreLowers uppers (i + 1) lowers
  lowers-pass e = record {
    only = λ u a b. let r = h.only u a b in (omega (arith, r.0), r.1);
    all = λ c a b d. elim (cases_eq c (i + 1)) [ inl same ↦ absurd (omega (arith, d, e, ap (at uppers) same)) | inr ne ↦ h.all c a (omega (arith, b, ne)) d ];
  }

  pub lowers-put : (u : ℕ) → u ≡ at uppers (i + 1) → 1 ≤ u → new ≡ set lowers (u - 1) (i + 1) → AreLowers uppers (i + 1) new
  lowers-put u is some e = subst (AreLowers uppers (i + 1)) (sym e) (record { only = only; all = all })
    where
      last : u ≤ length lowers
      last = omega (arith, is, are.last (i + 1) (omega arith), long)

      only : (v : ℕ) → 1 ≤ v → 1 ≤ at (set lowers (u - 1) (i + 1)) v → (at (set lowers (u - 1) (i + 1)) v ≤ i + 1) × (at uppers (at (set lowers (u - 1) (i + 1)) v) ≡ v)
      only v a b = elim (cases_eq v u) [
        | inl same ↦
            let s : at (set lowers (u - 1) (i + 1)) v ≡ i + 1 = ap (at (set lowers (u - 1) (i + 1))) same ∙ at-set_same lowers u (i + 1) some last in
            (omega (arith, s), ap (at uppers) s ∙ (sym is ∙ sym same))
        | inr ne ↦
            let s : at (set lowers (u - 1) (i + 1)) v ≡ at lowers v = at-set_other lowers u v (i + 1) some a ne in
            let r = h.only v a (omega (arith, b, s)) in
            (omega (arith, s, r.0), ap (at uppers) s ∙ r.1)
      ]

      all : (c : ℕ) → 1 ≤ c → c ≤ i + 1 → 1 ≤ at uppers c → at (set lowers (u - 1) (i + 1)) (at uppers c) ≡ c
      all c a b d = elim (cases_eq c (i + 1)) [
        | inl same ↦ ap (λ (k : ℕ). at (set lowers (u - 1) (i + 1)) (at uppers k)) same ∙ (ap (at (set lowers (u - 1) (i + 1))) (sym is) ∙ (at-set_same lowers u (i + 1) some last ∙ sym same))
        | inr ne ↦
            at-set_other lowers u (at uppers c) (i + 1) some d (λ e. ne (are.once c (i + 1) a (omega arith) d (e ∙ is)))
            ∙ h.all c a (omega (arith, b, ne)) d
      ]

-- ---- counts

-- the counts at the first cells
pub record AreBegun (F : ℕ → List ℕ) (uppers : List ℕ) (first : ℕ) (waits : List ℕ) : Type 0 where
  pub long : length waits ≡ length uppers
  pub counts : (c : ℕ) → 1 ≤ c → c ≤ first → at waits c ≡ cond (nat_le 1 (at uppers c)) (length (filter (λ g. nat_le 1 (at uppers g)) (F (at uppers c)))) 0
  pub later : (c : ℕ) → first < c → at waits c ≡ 0

pub begun-none : (F : ℕ → List ℕ) (uppers waits : List ℕ) (n : ℕ) → n ≡ length uppers → waits ≡ replicate n 0 → AreBegun F uppers 0 waits
begun-none F uppers waits n l e = record {
  long = ap (λ (xs : List ℕ). length xs) e ∙ (length-replicate {A = ℕ} n 0 ∙ l);
  counts = λ c a b. absurd (omega (arith, a, b));
  later = λ c a. ap (λ (xs : List ℕ). at xs c) e
      ∙ elim (cases_lt (c - 1) n) [ inl k ↦ get_or-replicate n (c - 1) 0 0 k | inr k ↦ get_or_past (replicate n 0) (c - 1) 0 (omega (arith, k, length-replicate {A = ℕ} n 0)) ];
}

module _ (F : ℕ → List ℕ) (uppers waits new : List ℕ) (i : ℕ) (h : AreBegun F uppers i waits) where
  pub begun-pass : at uppers (i + 1) ≡ 0 → AreBegun F uppers (i + 1) waits
  begun-pass e = record {
    long = h.long;
    counts = λ c a b. elim (cases_eq c (i + 1)) [
      | inl same ↦
          ap (at waits) same
          ∙ (h.later (i + 1) (omega arith)
          ∙ sym (ap (λ (k : ℕ). cond (nat_le 1 (at uppers k)) (length (filter (λ g. nat_le 1 (at uppers g)) (F (at uppers k)))) 0) same
          ∙ ap (λ (k : ℕ). cond (nat_le 1 k) (length (filter (λ g. nat_le 1 (at uppers g)) (F k))) 0) e))
      | inr ne ↦ h.counts c a (omega (arith, b, ne))
    ];
    later = λ c a. h.later c (omega (arith, a));
  }

  pub begun-put : (u number : ℕ) (fs : List ℕ) → u ≡ at uppers (i + 1) → 1 ≤ u → i < length uppers → fs ≡ F u → number ≡ length (filter (λ g. nat_le 1 (at uppers g)) fs) → new ≡ set waits (i + 1 - 1) number → AreBegun F uppers (i + 1) new
  begun-put u number fs is some l f n e = subst (AreBegun F uppers (i + 1)) (sym e) (record {
    long = length-set waits (i + 1 - 1) number ∙ h.long;
    counts = λ c a b. elim (cases_eq c (i + 1)) [
      | inl same ↦
          ap (at (set waits (i + 1 - 1) number)) same
          ∙ (at-set_same waits (i + 1) number (omega arith) (omega (arith, l, h.long))
          ∙ (n
          ∙ (ap (λ (xs : List ℕ). length (filter (λ g. nat_le 1 (at uppers g)) xs)) (f ∙ ap F is)
          ∙ sym (ap (λ (k : ℕ). cond (nat_le 1 (at uppers k)) (length (filter (λ g. nat_le 1 (at uppers g)) (F (at uppers k)))) 0) same
          ∙ ap (λ (b : Bool). cond b (length (filter (λ g. nat_le 1 (at uppers g)) (F (at uppers (i + 1))))) 0) (le-leb 1 (at uppers (i + 1)) (omega (arith, some, is)))))))
      | inr ne ↦ at-set_other waits (i + 1) c number (omega arith) a ne ∙ h.counts c a (omega (arith, b, ne))
    ];
    later = λ c a. at-set_other waits (i + 1) c number (omega arith) (omega (arith, a)) (λ e. omega (arith, a, e)) ∙ h.later c (omega (arith, a));
  })

module _ (space : List (List (List ℕ))) (dim : ℕ) (uppers waits : List ℕ) (valid : IsSpace space) (are : AreUppers space dim uppers) (h : AreBegun (facets_of space (dim + 1)) uppers (length uppers) waits) where
  -- the lowers among the facets of an upper are its facets among the lowers
  both-ways : (c : ℕ) → 1 ≤ c → 1 ≤ at uppers c → filter (λ g. nat_le 1 (at uppers g)) (facets_of space (dim + 1) (at uppers c)) ≡ filter (holds (facets_of space (dim + 1) (at uppers c))) (positive_at uppers)
  both-ways c a b =
      same_increasing (filter (λ g. nat_le 1 (at uppers g)) (facets_of space (dim + 1) (at uppers c))) (filter (holds (facets_of space (dim + 1) (at uppers c))) (positive_at uppers))
      (IsStrictlyIncreasing-filter (λ g. nat_le 1 (at uppers g)) (facets_of space (dim + 1) (at uppers c)) (facets-cell space (dim + 1) (at uppers c) valid (omega arith) b (are.last c a)).rises)
      (IsStrictlyIncreasing-filter (holds (facets_of space (dim + 1) (at uppers c))) (positive_at uppers) (positive-rise uppers))
      (λ g. same_bool (holds (filter (λ k. nat_le 1 (at uppers k)) (facets_of space (dim + 1) (at uppers c))) g) (holds (filter (holds (facets_of space (dim + 1) (at uppers c))) (positive_at uppers)) g)
      (λ e.
      let m : In g (filter (λ k. nat_le 1 (at uppers k)) (facets_of space (dim + 1) (at uppers c))) = holds-In (filter (λ k. nat_le 1 (at uppers k)) (facets_of space (dim + 1) (at uppers c))) e in
      let i : In g (facets_of space (dim + 1) (at uppers c)) = In-inside (λ k. nat_le 1 (at uppers k)) (facets_of space (dim + 1) (at uppers c)) m in
      let r = facet-range space dim (at uppers c) g valid b (are.last c a) i in
      In-holds (In-filter (holds (facets_of space (dim + 1) (at uppers c))) (In-positive uppers g r.0 (leb-true 1 (at uppers g) (filter-In (λ k. nat_le 1 (at uppers k)) (facets_of space (dim + 1) (at uppers c)) m))) (In-holds i)))
      (λ e.
      let m : In g (filter (holds (facets_of space (dim + 1) (at uppers c))) (positive_at uppers)) = holds-In (filter (holds (facets_of space (dim + 1) (at uppers c))) (positive_at uppers)) e in
      let r = positive-In uppers g (In-inside (holds (facets_of space (dim + 1) (at uppers c))) (positive_at uppers) m) in
      In-holds (In-filter (λ k. nat_le 1 (at uppers k)) (holds-In (facets_of space (dim + 1) (at uppers c)) (filter-In (holds (facets_of space (dim + 1) (at uppers c))) (positive_at uppers) m)) (le-leb 1 (at uppers g) r.2))))

  counted : (c : ℕ) → 1 ≤ c → 1 ≤ at uppers c → at waits c ≡ length (filter (holds (facets_of space (dim + 1) (at uppers c))) (positive_at uppers))
  counted c a b =
      h.counts c a (omega (arith, a, at-past uppers c b))
      ∙ (ap (λ (t : Bool). cond t (length (filter (λ g. nat_le 1 (at uppers g)) (facets_of space (dim + 1) (at uppers c)))) 0) (le-leb 1 (at uppers c) b) ∙ ap (λ (xs : List ℕ). length xs) (both-ways c a b))

  inside : (c : ℕ) → 1 ≤ c → 1 ≤ at waits c → 1 ≤ at uppers c
  inside c a b = elim (cases_lt 0 (at uppers c)) [
    | inl l ↦ omega (arith, l)
    | inr l ↦
        let z : at uppers c ≡ 0 = omega (arith, l) in
        let e : at waits c ≡ 0 = h.counts c a (omega (arith, a, at-past waits c b, h.long)) ∙ ap (λ (k : ℕ). cond (nat_le 1 k) (length (filter (λ g. nat_le 1 (at uppers g)) (facets_of space (dim + 1) k))) 0) z in
        absurd (omega (arith, b, e))
  ]

  counted-some : (c : ℕ) → 1 ≤ c → 1 ≤ at uppers c → 1 ≤ at waits c
  counted-some c a b =
      omega (arith, counted c a b, some-length (filter (holds (facets_of space (dim + 1) (at uppers c))) (positive_at uppers)) (In-filter (holds (facets_of space (dim + 1) (at uppers c))) (In-positive uppers c a b) (In-holds (are.facet c a b))))

  pub all-begun : positive_at waits ≡ positive_at uppers
  all-begun =
      ap (λ (n : ℕ). filter (λ c. nat_le 1 (at waits c)) (upto n)) h.long
      ∙ filter_same (λ c. nat_le 1 (at waits c)) (λ c. nat_le 1 (at uppers c)) (upto (length uppers))
      (λ k d l.
      let c : ℕ = get_or (upto (length uppers)) k d in
      let r = All-upto (length uppers) k d l in
      same_bool (nat_le 1 (at waits c)) (nat_le 1 (at uppers c)) (λ e. le-leb 1 (at uppers c) (inside c r.0 (leb-true 1 (at waits c) e))) (λ e. le-leb 1 (at waits c) (counted-some c r.0 (leb-true 1 (at uppers c) e))))

  pub waits-begun : AreWaits (facets_of space (dim + 1)) uppers waits
  waits-begun = record {
    long = h.long;
    inside = inside;
    counts = λ c a b. counted c a (inside c a b) ∙ ap (λ (xs : List ℕ). length (filter (holds (facets_of space (dim + 1) (at uppers c))) xs)) (sym all-begun);
  }

-- ---- the facets of an upper

module _ (space : List (List (List ℕ))) (dim : ℕ) (uppers : List ℕ) (valid : IsSpace space) (are : AreUppers space dim uppers) where
  pub upper-facets : (c n : ℕ) (fs : List ℕ) → 1 ≤ c → 1 ≤ at uppers c → fs ≡ facets_of space (dim + 1) (at uppers c) → n ≡ length uppers → All (λ f. (1 ≤ f) × (f ≤ n)) fs
  upper-facets c n fs a b e l =
      subst (λ (xs : List ℕ). All (λ f. (1 ≤ f) × (f ≤ n)) xs) (sym e)
      (λ k d m. let r = facet-range space dim (at uppers c) (get_or (facets_of space (dim + 1) (at uppers c)) k d) valid b (are.last c a) (at-In (facets_of space (dim + 1) (at uppers c)) k d m) in (r.0, omega (arith, r.1, l, are.long)))

  -- there are not too many
  pub upper-few : dim < 3 → (c : ℕ) (fs : List ℕ) → 1 ≤ c → 1 ≤ at uppers c → fs ≡ facets_of space (dim + 1) (at uppers c) → length fs ≤ 4294967295
  upper-few low c fs a b e =
      let rise : IsStrictlyIncreasing (facets_of space (dim + 1) (at uppers c)) = (facets-cell space (dim + 1) (at uppers c) valid (omega arith) b (are.last c a)).rises in
      let l : length (facets_of space (dim + 1) (at uppers c)) ≤ length (upto (count space dim)) =
      length-inside (facets_of space (dim + 1) (at uppers c)) (upto (count space dim)) (distinct_rising (facets_of space (dim + 1) (at uppers c)) rise)
      (λ f m. let r = facet-range space dim (at uppers c) f valid b (are.last c a) m in In-upto (count space dim) f r.0 r.1) in
      omega (arith, ap (λ (xs : List ℕ). length xs) e, l, length-upto (count space dim), layer_few dim low)
    where
      layer_few : (d : ℕ) → d < 3 → count space d ≤ 4294967295
      layer_few zero k = omega (arith, valid.few)
      layer_few (suc zero) k = omega (arith, valid.few)
      layer_few (suc (suc zero)) k = omega (arith, valid.few)
      layer_few (suc (suc (suc d))) k = absurd (omega (arith, k))

-- ---- one less at the lower of a cell

leaving-more : (lowers cells : List ℕ) (i c : ℕ) → i < length cells → leaving lowers (take (i + 1) cells) c ≡ leaving lowers (take i cells) c + cond (eqb (at lowers (get_or cells i 0)) c) 1 0
leaving-more lowers cells i c l =
    ap (λ (xs : List ℕ). length (filter (λ u. eqb (at lowers u) c) xs)) (take_more cells i 0 l)
    ∙ (ap (λ (xs : List ℕ). length xs) (filter-append (λ u. eqb (at lowers u) c) (take i cells) (get_or cells i 0 ∷ []))
    ∙ (length-append (filter (λ u. eqb (at lowers u) c) (take i cells)) (filter (λ u. eqb (at lowers u) c) (get_or cells i 0 ∷ []))
    ∙ ap (λ (n : ℕ). leaving lowers (take i cells) c + n) (one (eqb (at lowers (get_or cells i 0)) c))))
  where
    one : (b : Bool) → length {A = ℕ} (cond b (get_or cells i 0 ∷ []) []) ≡ cond b 1 0
    one true = refl
    one false = refl

module _ (old now new lowers cells : List ℕ) (i : ℕ) (more : i < length cells) (same : length now ≡ length old) (h : (c : ℕ) → 1 ≤ c → at now c ≡ at old c - leaving lowers (take i cells) c) where
  pub pass-lower : (lower : ℕ) → lower ≡ at lowers (get_or cells i 0) → 1 ≤ lower → lower ≤ length now → new ≡ set now (lower - 1) (get_or now (lower - 1) 0 - 1) → (c : ℕ) → 1 ≤ c → at new c ≡ at old c - leaving lowers (take (i + 1) cells) c
  pass-lower lower is a b e c low = elim (cases_eq c lower) [
    | inl s ↦
        let one : ◌≡◌ {A = ℕ} (cond (eqb (at lowers (get_or cells i 0)) c) 1 0) 1 = ap (λ (t : Bool). cond {A = ℕ} t 1 0) (eq-eqb (at lowers (get_or cells i 0)) c (sym is ∙ sym s)) in
        let now_is : at new c ≡ at now c - 1 = ap (λ (xs : List ℕ). at xs c) e ∙ (ap (at (set now (lower - 1) (get_or now (lower - 1) 0 - 1))) s ∙ (at-set_same now lower (get_or now (lower - 1) 0 - 1) a b ∙ ap (λ (k : ℕ). at now k - 1) (sym s))) in
        omega (arith, now_is, one, h c low, leaving-more lowers cells i c more)
    | inr ne ↦
        let none : ◌≡◌ {A = ℕ} (cond (eqb (at lowers (get_or cells i 0)) c) 1 0) 0 = ap (λ (t : Bool). cond {A = ℕ} t 1 0) (ne_eqb (at lowers (get_or cells i 0)) c (λ s. ne (sym (is ∙ s)))) in
        let now_is : at new c ≡ at now c = ap (λ (xs : List ℕ). at xs c) e ∙ at-set_other now lower c (get_or now (lower - 1) 0 - 1) a low ne in
        omega (arith, now_is, none, h c low, leaving-more lowers cells i c more)
  ]

  pub pass-none : at lowers (get_or cells i 0) ≡ 0 → (c : ℕ) → 1 ≤ c → at now c ≡ at old c - leaving lowers (take (i + 1) cells) c
  pass-none z c low =
      let none : ◌≡◌ {A = ℕ} (cond (eqb (at lowers (get_or cells i 0)) c) 1 0) 0 = ap (λ (t : Bool). cond {A = ℕ} t 1 0) (ne_eqb (at lowers (get_or cells i 0)) c (λ s. omega (arith, z, s, low))) in
      omega (arith, none, h c low, leaving-more lowers cells i c more)
