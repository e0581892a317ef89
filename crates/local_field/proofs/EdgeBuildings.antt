-- The boundary of an edge without one vertex is the other one.
use Rattle.std.proofs.Common.{◌≡◌, ◌≢◌, ◌⊎◌, inl, inr, ℕ, ◌≤◌, List, [], ◌∷◌, Bool, true, false, cond, eqb, length, get_or, refl, ap, sym, ◌∙◌, subst, arith}
use Rattle.std.specs.List.Sorted.{IsStrictlyIncreasing}
use Rattle.std.proofs.lemmas.Bool.{eqb-true, eq-eqb, false≢true}
use Rattle.number_lists.specs.Members.{In, here, there}
use Rattle.number_lists.proofs.CallerLemmas.{In-cases}
use Rattle.face_poset.specs.Poset.{IsSpace, count, facets_of}
use Rattle.face_poset.specs.Below.{cell_at}
use Rattle.order_complex.specs.Chains.{id_of}
use Rattle.regular_check.specs.Rules.{IsRegular}
use Rattle.sphere_collapses.proofs.CallerLemmas.{two_ends_kept}
use Rattle.local_field.specs.Inside.{IsBuilding}
use Rattle.local_field.specs.Buildings.{dim_at, is_below, edge_building}
use Rattle.local_field.proofs.FlagLaw.{dim-id, facets-cell, facet-range, facet-below}
use Rattle.local_field.proofs.Cells.{under-facet, point-id, point-dim, nothing-below}

-- the other one of two numbers
pub record IsOther (vs : List ℕ) (m r : ℕ) : Type 0 where
  pub there : In r vs
  pub apart : r ≢ m
  pub either : (v : ℕ) → In v vs → (v ≡ r) ⊎ (v ≡ m)

other_of : (vs : List ℕ) (m : ℕ) → length vs ≡ 2 → IsStrictlyIncreasing vs → In m vs → IsOther vs m (cond (eqb (get_or vs 0 0) m) (get_or vs 1 0) (get_or vs 0 0))
other_of [] m l r i = absurd (omega (arith, l))
other_of (a ∷ []) m l r i = absurd (omega (arith, l))
other_of (a ∷ b ∷ c ∷ vs) m l r i = absurd (omega (arith, l))
other_of (a ∷ b ∷ []) m l r i = by (eqb a m) refl
  where
    one : (v : ℕ) → In v (b ∷ []) → v ≡ b
    one v j = elim (In-cases j) [ inl e ↦ e | inr k ↦ elim k [ ] ]

    two : (v : ℕ) → In v (a ∷ b ∷ []) → (v ≡ a) ⊎ (v ≡ b)
    two v j = elim (In-cases j) [ inl e ↦ inl e | inr k ↦ inr (one v k) ]

    by : (t : Bool) → eqb a m ≡ t → IsOther (a ∷ b ∷ []) m (cond (eqb a m) b a)
    by true e =
        let s : a ≡ m = eqb-true a m e in
        subst (IsOther (a ∷ b ∷ []) m) (sym (ap (λ (t : Bool). cond t b a) e))
        (record { there = there here; apart = λ q. omega (arith, q, s, r 0 (omega arith)); either = λ v j. elim (two v j) [ inl x ↦ inr (x ∙ s) | inr x ↦ inl x ] })
    by false e =
        let not_first : a ≢ m = λ q. false≢true (sym e ∙ eq-eqb a m q) in
        let s : m ≡ b = elim (two m i) [ inl x ↦ absurd (not_first (sym x)) | inr x ↦ x ] in
        subst (IsOther (a ∷ b ∷ []) m) (sym (ap (λ (t : Bool). cond t b a) e))
        (record { there = here; apart = not_first; either = λ v j. elim (two v j) [ inl x ↦ inl x | inr x ↦ inr (x ∙ sym s) ] })

module _ (space : List (List (List ℕ))) (valid : IsSpace space) (regular : IsRegular space) where
  pub edge-built : (n m : ℕ) → 1 ≤ n → n ≤ count space 1 → In m (facets_of space 1 n) → IsBuilding (is_below space) (dim_at space) (id_of space (cell_at 1 n)) (id_of space (cell_at 0 m)) (edge_building space n (id_of space (cell_at 0 m)))
  edge-built n m low high i =
      let vs : List ℕ = facets_of space 1 n in
      let f : ℕ = id_of space (cell_at 0 m) in
      let g : ℕ = id_of space (cell_at 1 n) in
      let r : ℕ = cond (eqb (get_or vs 0 0) f) (get_or vs 1 0) (get_or vs 0 0) in
      let o : IsOther vs m r =
      subst (λ (k : ℕ). IsOther vs m (cond (eqb (get_or vs 0 0) k) (get_or vs 1 0) (get_or vs 0 0))) (sym (point-id space valid m))
      (other_of vs m (two_ends_kept space valid regular n low high) (facets-cell space valid 0 n low high).rises i) in
      let w = facet-range space valid 0 n r low high o.there in
      let apart : r ≢ f = λ e. o.apart (e ∙ point-id space valid m) in
      record {
        all = λ c h. faces c (under-facet space valid 0 n c (omega arith) low high h) o;
        point = point-dim space valid r w.0 w.1;
        rootless = ((λ e. apart (sym e)), tt);
        rooted = subst (λ (k : ℕ). is_below space k g ≡ true) (point-id space valid r) (facet-below space valid 0 n r (omega arith) low high o.there);
        other = apart;
        fit = tt;
        order = (tt, tt);
      }
    where
      faces : {r : ℕ} (c : ℕ) → (v : ℕ) × In v (facets_of space 1 n) × ((c ≡ id_of space (cell_at 0 v)) ⊎ (is_below space c (id_of space (cell_at 0 v)) ≡ true)) → IsOther (facets_of space 1 n) m r
          → (c ≡ r) ⊎ (c ≡ id_of space (cell_at 0 m))
      faces c (v, j, inl e) o = elim (o.either v j) [ inl s ↦ inl (e ∙ (point-id space valid v ∙ s)) | inr s ↦ inr (e ∙ ap (λ (k : ℕ). id_of space (cell_at 0 k)) s) ]
      faces c (v, j, inr h) o =
          let w = facet-range space valid 0 n v low high j in
          absurd (nothing-below space valid (id_of space (cell_at 0 v)) c (dim-id space 0 v (omega arith) w.0 w.1) h)
