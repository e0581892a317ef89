-- The ends of edges in a regular space.
use Rattle.std.proofs.Common.{◌≡◌, ◌≢◌, ◌⊎◌, inl, inr, ℕ, ◌≤◌, List, [], ◌∷◌, ◌++◌, length, Bool, true, false, not, Option, Some, None, refl, sym, ◌∙◌, arith}
use Rattle.std.specs.List.{find, flat_map}
use Rattle.std.specs.Prelude.{option_map}
use Rattle.std.proofs.lemmas.Bool.{eqb-true}
use Rattle.std.proofs.lemmas.Option.{none-some}
use Rattle.number_lists.specs.Words.{upto}
use Rattle.number_lists.specs.Members.{In, here}
use Rattle.number_lists.proofs.CallerLemmas.{In-cases, In-left, In-flat_map, In-upto}
use Rattle.face_poset.specs.Poset.{count, facets_of}
use Rattle.regular_check.specs.declared.fault.RegularFault.TheVariants.{EdgeEnds}
use Rattle.regular_check.specs.Rules.{Rule, rule, edge_rules, disk_rules, solid_rules, all_rules, two_ends, IsRegular}
use Rattle.pair_laws.proofs.CallerLemmas.{find-none}

none-mapped : {A B : Type 0} (f : A → B) (o : Option A) → option_map f o ≡ None → o ≡ None
none-mapped f None e = refl
none-mapped f (Some x) e = absurd (none-some (f x) (sym e))

module _ (space : List (List (List ℕ))) (regular : IsRegular space) where
  -- each rule is kept
  kept : (r : Rule) → In r (all_rules space) → r.kept ≡ true
  kept r m =
      by r.kept refl (find-none (λ (q : Rule). not q.kept) (all_rules space) (none-mapped (λ (q : Rule). q.fault) (find (λ (q : Rule). not q.kept) (all_rules space)) regular) m)
    where
      by : (b : Bool) → r.kept ≡ b → not r.kept ≡ false → r.kept ≡ true
      by true e f = e
      by false e f = absurd (grind (arith, e, f))

  -- an edge has two ends
  pub two_facets : (edge : ℕ) → 1 ≤ edge → edge ≤ count space 1 → length (facets_of space 1 edge) ≡ 2
  two_facets edge a b =
      eqb-true (length (facets_of space 1 edge)) 2
      (kept (rule (two_ends space edge) (EdgeEnds edge))
      (In-left (flat_map (disk_rules space) (upto (count space 2)) ++ flat_map (solid_rules space) (upto (count space 3)))
      (In-flat_map (edge_rules space) {xs = upto (count space 1)} (In-upto (count space 1) edge a b) here)))

-- of a list of two numbers each is one of two that differ
pub one_of_two : (xs : List ℕ) (v w u : ℕ) → length xs ≡ 2 → In v xs → In w xs → v ≢ w → In u xs → (u ≡ v) ⊎ (u ≡ w)
one_of_two [] v w u e m n d k = elim m [ ]
one_of_two (x ∷ []) v w u e m n d k = absurd (omega (arith, e))
one_of_two (x ∷ y ∷ []) v w u e m n d k = by (In-cases m) (In-cases n) (In-cases k)
  where
    last : {z : ℕ} → In z (y ∷ []) → z ≡ y
    last i = elim (In-cases i) [ inl e ↦ e | inr j ↦ elim j [ ] ]

    by : (v ≡ x) ⊎ In v (y ∷ []) → (w ≡ x) ⊎ In w (y ∷ []) → (u ≡ x) ⊎ In u (y ∷ []) → (u ≡ v) ⊎ (u ≡ w)
    by (inl a) (inl b) c = absurd (d (a ∙ sym b))
    by (inl a) (inr b) (inl c) = inl (c ∙ sym a)
    by (inl a) (inr b) (inr c) = inr (last c ∙ sym (last b))
    by (inr a) (inl b) (inl c) = inr (c ∙ sym b)
    by (inr a) (inl b) (inr c) = inl (last c ∙ sym (last a))
    by (inr a) (inr b) c = absurd (d (last a ∙ sym (last b)))
one_of_two (x ∷ y ∷ z ∷ xs) v w u e m n d k = absurd (omega (arith, e))
