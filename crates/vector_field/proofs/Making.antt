-- Pairs of free faces, the last one made first, are in a valid order.
use Rattle.std.proofs.Common.{◌≡◌, ◌≢◌, inl, inr, ℕ, ◌+◌, ◌-◌, ◌<◌, ◌≤◌, List, [], ◌∷◌, ◌++◌, Bool, true, false, not, eqb, length, get_or, set, reverse, ap, sym, ◌∙◌, subst, arith, All}
use Rattle.std.proofs.lemmas.Bool.{false≢true, cases_eq, cases_lt, not-true}
use Rattle.std.proofs.lemmas.List.{get_or-set_same, get_or-set_other, get_or_past}
use Rattle.face_poset.specs.declared.cells.Pair.{Pair}
use Rattle.face_poset.specs.Poset.{count, facets_of, cofaces_of}
use Rattle.vector_field.specs.Pairs.{pair, is_used, is_incident, IsValid}
use Rattle.vector_field.specs.Stages.{is_left, IsOnly}
use Rattle.number_lists.specs.Members.{In, there}
use Rattle.number_lists.proofs.CallerLemmas.{In-inside, In-holds, holds-In, In-left, push-In, append-In, reverse-In, at-In}
use Rattle.vector_field.proofs.Lined.{Lined, lined-push, lined-append, lined-reverse}
use Rattle.vector_field.proofs.Valid.{Uses, Apart, Goes, IsLined, valid-from, lined-from, unused-In}
use Rattle.vector_field.proofs.MaximalTest.{incident-from, incident-coface, cofaces-In, In-cofaces, Coface}

-- a cell that is left is there
left-range : (cells : List Bool) (cell : ℕ) → is_left cells cell ≡ true → cell - 1 < length cells
left-range cells cell e = elim (cases_lt (cell - 1) (length cells)) [ inl l ↦ l | inr l ↦ absurd (false≢true (sym (get_or_past cells (cell - 1) false l) ∙ e)) ]

-- what is left when a cell goes was left before, and is not the cell
left-less : (cells : List Bool) (gone cell : ℕ) → 1 ≤ gone → gone ≤ length cells → 1 ≤ cell → is_left (set cells (gone - 1) false) cell ≡ true → (is_left cells cell ≡ true) × (cell ≢ gone)
left-less cells gone cell a b low e =
    elim (cases_eq cell gone) [
      | inl same ↦ absurd (false≢true (sym (get_or-set_same cells (gone - 1) false false (omega arith)) ∙ (ap (λ (n : ℕ). get_or (set cells (gone - 1) false) (n - 1) false) (sym same) ∙ e)))
      | inr ne ↦ (sym (get_or-set_other cells (gone - 1) (cell - 1) false false (λ x. ne (omega arith))) ∙ e, ne)
    ]

module _ (space : List (List (List ℕ))) (dim : ℕ) (ps : List Pair) where
  -- the pairs made so far, and the cells that are left
  pub record IsMaking (made : List Pair) (cells : List Bool) : Type 0 where
    pub lined : Lined (λ q p. Goes space p q) made
    pub dims : (p : Pair) → In p made → p.dim ≡ dim
    pub incident : (p : Pair) → In p made → is_incident space p ≡ true
    pub apart : (q p : Pair) → In q ps → In p made → Apart q p
    pub fresh : (b : ℕ) → 1 ≤ b → is_left cells b ≡ true → (q : Pair) → In q (ps ++ made) → Uses q (dim + 1) b → ⊥
    pub clear : (b : ℕ) → 1 ≤ b → is_left cells b ≡ true → (p : Pair) → In p made → In p.lower (facets_of space (dim + 1) b) → ⊥

module _ (space : List (List (List ℕ))) (dim : ℕ) (ps : List Pair) (above : (q : Pair) → In q ps → dim + 1 ≤ q.dim) where
  pub making_begun : (cells : List Bool) → length cells ≡ count space (dim + 1) → ((b : ℕ) → 1 ≤ b → b ≤ count space (dim + 1) → is_left cells b ≡ not (is_used ps (dim + 1) b)) → IsMaking space dim ps [] cells
  making_begun cells long h = record {
    lined = tt;
    dims = λ p m. elim m [ ];
    incident = λ p m. elim m [ ];
    apart = λ q p m n. elim n [ ];
    fresh = λ b low e q m u. elim (append-In ps [] m) [
      | inl k ↦ unused-In (dim + 1) b (not-true (is_used ps (dim + 1) b) (sym (h b low (omega (arith, left-range cells b e))) ∙ e)) k u
      | inr k ↦ elim k [ ]
    ];
    clear = λ b low e p m. elim m [ ];
  }

  -- a cell goes without a pair
  pub making_less : (made : List Pair) (cells : List Bool) (gone : ℕ) → 1 ≤ gone → gone ≤ length cells → IsMaking space dim ps made cells → IsMaking space dim ps made (set cells (gone - 1) false)
  making_less made cells gone a b h = record {
    lined = h.lined;
    dims = h.dims;
    incident = h.incident;
    apart = h.apart;
    fresh = λ c low e. h.fresh c low (left-less cells gone c a b low e).0;
    clear = λ c low e. h.clear c low (left-less cells gone c a b low e).0;
  }

  -- a cell goes with the lower that it alone has
  pub making_more : (made : List Pair) (cells : List Bool) (f b : ℕ) → dim < 3 → 1 ≤ f → f ≤ count space dim → length cells ≡ count space (dim + 1) → IsOnly cells (cofaces_of space dim f) b → IsMaking space dim ps made cells → IsMaking space dim ps (made ++ pair dim f b ∷ []) (set cells (b - 1) false)
  making_more made cells f b low f1 f2 long only h = record {
    lined = lined-push (λ q p. Goes space p q) made (pair dim f b) h.lined (λ q m. goes q m);
    dims = λ p m. elim (push-In made (pair dim f b) m) [ inl k ↦ h.dims p k | inr k ↦ ap (λ (z : Pair). z.dim) k ];
    incident = λ p m. elim (push-In made (pair dim f b) m) [ inl k ↦ h.incident p k | inr k ↦ subst (λ (z : Pair). is_incident space z ≡ true) (sym k) (incident-from space (pair dim f b) (incident-coface space dim f b low f1 f2 member)) ];
    apart = λ q p m n. elim (push-In made (pair dim f b) n) [ inl k ↦ h.apart q p m k | inr k ↦ subst (λ (z : Pair). Apart q z) (sym k) (apart_old q m) ];
    fresh = λ c c1 e q m u. let l = left-less cells b c b1 b2 c1 e in elim (append-In ps (made ++ pair dim f b ∷ []) m) [
      | inl k ↦ h.fresh c c1 l.0 q (In-left made k) u
      | inr k ↦ elim (push-In made (pair dim f b) k) [
        | inl j ↦ h.fresh c c1 l.0 q (in-right ps j) u
        | inr j ↦ not_new c l.1 (subst (λ (z : Pair). Uses z (dim + 1) c) j u)
      ]
    ];
    clear = λ c c1 e p m i. let l = left-less cells b c b1 b2 c1 e in elim (push-In made (pair dim f b) m) [
      | inl k ↦ h.clear c c1 l.0 p k i
      | inr k ↦ l.1 (only.only c (In-holds (In-cofaces space dim f c c1 (omega (arith, left-range cells c l.0)) (subst (λ (z : Pair). In z.lower (facets_of space (dim + 1) c)) k i))) l.0)
    ];
  }
    where
      member : In b (cofaces_of space dim f)
      member = holds-In (cofaces_of space dim f) only.member

      coface : Coface space dim f b
      coface = cofaces-In space dim f b member

      b1 : 1 ≤ b
      b1 = coface.first

      b2 : b ≤ length cells
      b2 = omega (arith, coface.last)

      in-right : {x : Pair} (xs : List Pair) {ys : List Pair} → In x ys → In x (xs ++ ys)
      in-right [] m = m
      in-right (x ∷ xs) m = there (in-right xs m)

      not_new : (c : ℕ) → c ≢ b → Uses (pair dim f b) (dim + 1) c → ⊥
      not_new c n (inl u) = omega (arith, u.0)
      not_new c n (inr u) = n (sym u.1)

      apart_old : (q : Pair) → In q ps → Apart q (pair dim f b)
      apart_old q m = (by, λ u. h.fresh b b1 only.left q (In-left made m) u)
        where
          by : Uses q dim f → ⊥
          by (inl u) = omega (arith, above q m, u.0)
          by (inr u) = omega (arith, above q m, u.0)

      -- the new pair may stand before one that was made
      goes : (q : Pair) → In q made → Goes space (pair dim f b) q
      goes q m = record { apart = (lower, upper); free = λ d i. h.clear b b1 only.left q m (In-inside (λ g. not (eqb g f)) (facets_of space (dim + 1) b) i) }
        where
          lower : Uses (pair dim f b) q.dim q.lower → ⊥
          lower (inl u) = h.clear b b1 only.left q m (subst (λ (z : ℕ). In z (facets_of space (dim + 1) b)) u.1 coface.facet)
          lower (inr u) = omega (arith, u.0, h.dims q m)

          upper : Uses (pair dim f b) (q.dim + 1) q.upper → ⊥
          upper (inl u) = omega (arith, u.0, h.dims q m)
          upper (inr u) = h.fresh b b1 only.left q (in-right ps m) (inr (ap (λ (n : ℕ). n + 1) (h.dims q m), sym u.1))

  -- the pairs made, backward, go after those that were there
  pub making_done : (made : List Pair) (cells : List Bool) → IsValid space ps → IsMaking space dim ps made cells → IsValid space (ps ++ reverse made)
  making_done made cells v h =
      let old : IsLined space ps = lined-from space ps v in
      valid-from space (ps ++ reverse made)
      (record {
        incident = λ p m. elim (append-In ps (reverse made) m) [ inl k ↦ old.incident p k | inr k ↦ h.incident p (reverse-In made k) ];
        lined = lined-append (Goes space) ps (reverse made) old.lined (lined-reverse (Goes space) made h.lined)
            (λ q p m n. record { apart = h.apart q p m (reverse-In made n); free = λ d i. omega (arith, d, above q m, h.dims p (reverse-In made n)) });
      })

pub dims-reverse : (dim : ℕ) (made : List Pair) → ((p : Pair) → In p made → p.dim ≡ dim) → All (λ (p : Pair). p.dim ≡ dim) (reverse made)
dims-reverse dim made h k d l = h (get_or (reverse made) k d) (reverse-In made (at-In (reverse made) k d l))
