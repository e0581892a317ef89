-- One pair more between those that are not late and those that are.
use Rattle.std.proofs.Common.{◌≡◌, ◌⊎◌, inl, inr, ℕ, suc, ◌+◌, List, [], ◌∷◌, ◌++◌, Bool, true, false, cond, ◌&&◌, not, eqb, filter, length, refl, ap, sym, ◌∙◌, subst, arith}
use Rattle.std.proofs.lemmas.Bool.{cases_Bool, both_ways, and_parts, and_from, eqb-true, eq-eqb, not-true, not_from_false}
use Rattle.std.proofs.lemmas.List.{length-append}
use Rattle.face_poset.specs.declared.cells.Pair.{Pair}
use Rattle.number_lists.specs.Words.{holds}
use Rattle.face_poset.specs.Poset.{facets_of}
use Rattle.vector_field.specs.Pairs.{pair, is_used, is_incident, IsValid}
use Rattle.vector_field.specs.Paths.{Leads, arrived, along, leads_to, has_path}
use Rattle.vector_field.specs.Pairings.{is_late, inserted}
use Rattle.vector_field.specs.Searches.{IsLed}
use Rattle.number_lists.specs.Members.{In, here, there}
use Rattle.number_lists.proofs.CallerLemmas.{In-cases, In-filter, filter-In, In-inside, In-left, In-right, append-In, any-In, holds-In}
use Rattle.vector_field.proofs.Lined.{lined-append, lined-filter, lined-two}
use Rattle.vector_field.proofs.Valid.{Apart, apart-sym, Goes, IsLined, valid-from, lined-from, unused-In}
use Rattle.vector_field.proofs.Paths.{leads-sound, leads-complete}

-- ---- the members

module _ (ps : List Pair) (p : Pair) (numbers : List ℕ) where
  pub inserted-kept : {q : Pair} → In q ps → In q (inserted ps p numbers)
  inserted-kept {q} m = elim (cases_Bool (is_late p.dim numbers q)) [
    | inl e ↦ In-right (filter (λ r. not (is_late p.dim numbers r)) ps) (there (In-filter (is_late p.dim numbers) m e))
    | inr e ↦ In-left (p ∷ filter (is_late p.dim numbers) ps) (In-filter (λ r. not (is_late p.dim numbers r)) m (not_from_false (is_late p.dim numbers q) e))
  ]

  pub inserted-new : In p (inserted ps p numbers)
  inserted-new = In-right (filter (λ r. not (is_late p.dim numbers r)) ps) here

  pub inserted-only : {q : Pair} → In q (inserted ps p numbers) → In q ps ⊎ (q ≡ p)
  inserted-only m = elim (append-In (filter (λ r. not (is_late p.dim numbers r)) ps) (p ∷ filter (is_late p.dim numbers) ps) m) [
    | inl k ↦ inl (In-inside (λ r. not (is_late p.dim numbers r)) ps k)
    | inr k ↦ elim (In-cases k) [ inl e ↦ inr e | inr j ↦ inl (In-inside (is_late p.dim numbers) ps j) ]
  ]

  split-length : {A : Type 0} (t : A → Bool) (xs : List A) → length (filter (λ x. not (t x)) xs) + length (filter t xs) ≡ length xs
  split-length t [] = omega arith
  split-length t (x ∷ xs) = by (t x) (split-length t xs)
    where
      by : (b : Bool) → length (filter (λ y. not (t y)) xs) + length (filter t xs) ≡ length xs
          → length (cond (not b) (x ∷ filter (λ y. not (t y)) xs) (filter (λ y. not (t y)) xs)) + length (cond b (x ∷ filter t xs) (filter t xs)) ≡ suc (length xs)
      by true e = omega (arith, e)
      by false e = omega (arith, e)

  pub length-inserted : length (inserted ps p numbers) ≡ length ps + 1
  length-inserted =
      omega (arith, length-append (filter (λ r. not (is_late p.dim numbers r)) ps) (p ∷ filter (is_late p.dim numbers) ps), split-length (is_late p.dim numbers) ps)

  -- where no pair is late, the new one comes last
  pub inserted-last : ((q : Pair) → In q ps → is_late p.dim numbers q ≡ true → ⊥) → inserted ps p numbers ≡ ps ++ p ∷ []
  inserted-last none = both (all_in ps none) (none_in ps none)
    where
      all_in : (qs : List Pair) → ((q : Pair) → In q qs → is_late p.dim numbers q ≡ true → ⊥) → filter (λ r. not (is_late p.dim numbers r)) qs ≡ qs
      all_in [] k = refl
      all_in (q ∷ qs) k = by (is_late p.dim numbers q) refl (all_in qs (λ r m. k r (there m)))
        where
          by : (b : Bool) → is_late p.dim numbers q ≡ b → filter (λ r. not (is_late p.dim numbers r)) qs ≡ qs → cond (not b) (q ∷ filter (λ r. not (is_late p.dim numbers r)) qs) (filter (λ r. not (is_late p.dim numbers r)) qs) ≡ q ∷ qs
          by true e h = absurd (k q here e)
          by false e h = ap (λ (rs : List Pair). q ∷ rs) h

      none_in : (qs : List Pair) → ((q : Pair) → In q qs → is_late p.dim numbers q ≡ true → ⊥) → filter (is_late p.dim numbers) qs ≡ []
      none_in [] k = refl
      none_in (q ∷ qs) k = by (is_late p.dim numbers q) refl (none_in qs (λ r m. k r (there m)))
        where
          by : (b : Bool) → is_late p.dim numbers q ≡ b → filter (is_late p.dim numbers) qs ≡ [] → cond b (q ∷ filter (is_late p.dim numbers) qs) (filter (is_late p.dim numbers) qs) ≡ []
          by true e h = absurd (k q here e)
          by false e h = h

      both : filter (λ r. not (is_late p.dim numbers r)) ps ≡ ps → filter (is_late p.dim numbers) ps ≡ [] → inserted ps p numbers ≡ ps ++ p ∷ []
      both e f = ap (λ (qs : List Pair). qs ++ p ∷ filter (is_late p.dim numbers) ps) e ∙ ap (λ (qs : List Pair). ps ++ p ∷ qs) f

-- where the lower of the new pair alone was found, no pair is late
single : (xs : List ℕ) (x y : ℕ) → length xs ≡ 1 → holds xs x ≡ true → holds xs y ≡ true → x ≡ y
single [] x y l e f = absurd (omega (arith, l))
single (z ∷ []) x y l e f = elim (In-cases (holds-In (z ∷ []) e)) [ inl a ↦ elim (In-cases (holds-In (z ∷ []) f)) [ inl b ↦ a ∙ sym b | inr b ↦ elim b [ ] ] | inr a ↦ elim a [ ] ]
single (z ∷ w ∷ ws) x y l e f = absurd (omega (arith, l))

pub inserted_alone : (ps : List Pair) (p : Pair) (numbers : List ℕ) → length numbers ≡ 1 → holds numbers p.lower ≡ true → is_used ps p.dim p.lower ≡ false → inserted ps p numbers ≡ ps ++ p ∷ []
inserted_alone ps p numbers l e u =
    inserted-last ps p numbers
    (λ q m k.
    let b = and_parts (eqb q.dim p.dim) (holds numbers q.lower) k in
    unused-In p.dim p.lower u m (inl (eqb-true q.dim p.dim b.0, single numbers q.lower p.lower l b.1 e)))

-- ---- the order

module _ (space : List (List (List ℕ))) (ps : List Pair) (dim a b : ℕ) (found : List ℕ) (valid : IsValid space ps)
    (incident : is_incident space (pair dim a b) ≡ true) (unused : is_used ps dim a ≡ false) (free : is_used ps (dim + 1) b ≡ false) (pathless : has_path space ps dim b a ≡ false) (led : IsLed space ps dim a found) where
  late : Pair → Bool
  late q = is_late dim found q

  -- a late pair leads to the new lower
  late-leads : (q : Pair) → is_late dim found q ≡ true → (q.dim ≡ dim) × Leads space ps dim a q.lower
  late-leads q e = let k = and_parts (eqb q.dim dim) (holds found q.lower) e in (eqb-true q.dim dim k.0, leads-sound space ps dim a q.lower (sym (led q.lower) ∙ k.1))

  leads-late : (q : Pair) → q.dim ≡ dim → Leads space ps dim a q.lower → is_late dim found q ≡ true
  leads-late q d h = and_from (eqb q.dim dim) (holds found q.lower) (eq-eqb q.dim dim d) (led q.lower ∙ leads-complete space ps dim a q.lower h)

  apart-new : (q : Pair) → In q ps → Apart q (pair dim a b)
  apart-new q m = (λ u. unused-In dim a unused m u, λ u. unused-In (dim + 1) b free m u)

  early : (q : Pair) → In q (filter (λ r. not (is_late dim found r)) ps) → (In q ps) × (is_late dim found q ≡ false)
  early q m = (In-inside (λ r. not (is_late dim found r)) ps m, not-true (is_late dim found q) (filter-In (λ r. not (is_late dim found r)) ps m))

  lates : (q : Pair) → In q (filter (is_late dim found) ps) → (In q ps) × (is_late dim found q ≡ true)
  lates q m = (In-inside (is_late dim found) ps m, filter-In (is_late dim found) ps m)

  -- what is early may stand before the new pair
  early-new : (q : Pair) → In q ps → is_late dim found q ≡ false → Goes space q (pair dim a b)
  early-new q m e = record { apart = apart-new q m; free = λ d i. both_ways (is_late dim found q) e (leads-late q (sym d) (along q m (sym d) i arrived)) }

  -- the new pair may stand before what is late
  new-late : (r : Pair) → In r ps → is_late dim found r ≡ true → Goes space (pair dim a b) r
  new-late r m e = record {
    apart = apart-sym r (pair dim a b) (apart-new r m);
    free = λ d i.
        let among : In r.lower (facets_of space (dim + 1) b) = In-inside (λ f. not (eqb f a)) (facets_of space (dim + 1) b) i in
        let other : not (eqb r.lower a) ≡ true = filter-In (λ f. not (eqb f a)) (facets_of space (dim + 1) b) i in
        both_ways (has_path space ps dim b a) pathless
        (any-In (λ f. not (eqb f a) && leads_to space ps dim a f) among (and_from (not (eqb r.lower a)) (leads_to space ps dim a r.lower) other (leads-complete space ps dim a r.lower (late-leads r e).1)));
  }

  early-late : (q r : Pair) → In q ps → is_late dim found q ≡ false → In r ps → is_late dim found r ≡ true → Goes space q r
  early-late q r m e n f = record {
    apart = elim (lined-two (Goes space) ps (lined-from space ps valid).lined q r m n) [
      | inl same ↦ absurd (both_ways (is_late dim found q) e (subst (λ (z : Pair). is_late dim found z ≡ true) (sym same) f))
      | inr k ↦ elim k [ inl g ↦ g.apart | inr g ↦ apart-sym r q g.apart ]
    ];
    free = λ d i.
        let l = late-leads r f in
        both_ways (is_late dim found q) e (leads-late q (sym d ∙ l.0) (along q m (sym d ∙ l.0) i l.1));
  }

  pub inserted-valid : IsValid space (inserted ps (pair dim a b) found)
  inserted-valid =
      let old : IsLined space ps = lined-from space ps valid in
      valid-from space (inserted ps (pair dim a b) found)
      (record {
        incident = λ q m. elim (inserted-only ps (pair dim a b) found m) [ inl k ↦ old.incident q k | inr e ↦ subst (λ (z : Pair). is_incident space z ≡ true) (sym e) incident ];
        lined = lined-append (Goes space) (filter (λ r. not (is_late dim found r)) ps) (pair dim a b ∷ filter (is_late dim found) ps)
            (lined-filter (Goes space) (λ r. not (is_late dim found r)) ps old.lined)
            ((λ r m. let k = lates r m in new-late r k.0 k.1), lined-filter (Goes space) (is_late dim found) ps old.lined)
            (λ q r m n. let k = early q m in elim (In-cases n) [ inl e ↦ subst (Goes space q) (sym e) (early-new q k.0 k.1) | inr j ↦ let l = lates r j in early-late q r k.0 k.1 l.0 l.1 ]);
      })
