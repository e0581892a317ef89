use Rattle.std.proofs.Common.{◌≡◌, ◌≢◌, inl, inr, ℕ, ◌+◌, ◌<◌, ◌≤◌, List, Bool, true, false, not, eqb, ltb, length, get_or, take, drop, Option, None, Some, ap, sym, ◌∙◌, subst, arith}
use Rattle.std.specs.List.{list_any}
use Rattle.std.proofs.lemmas.Bool.{false≢true, false_from_ne_true, not_from_false, eqb-true, eqb-false, not-true, or_cases}
use Rattle.std.proofs.lemmas.List.{take_all}
use Rattle.face_poset.specs.declared.cells.Pair.{Pair}
use Rattle.number_lists.specs.Words.{holds}
use Rattle.face_poset.specs.Poset.{count, facets_of, IsSpace}
use Rattle.number_lists.proofs.CallerLemmas.{holds_more, at-In, In-all, all-In, filter-In, In-inside, In-holds}
use Rattle.vector_field.specs.CellMaps.{at}
use Rattle.vector_field.specs.Pairs.{has_lower, is_incident, others, comes_before, counts_of}
use Rattle.vector_field.specs.Pairings.{lengths}
use Rattle.vector_field.specs.LastPlaces.{pair_at, AreLast}
use Rattle.number_lists.specs.Members.{In}
use Rattle.vector_field.proofs.MaximalTest.{incident-true}
use Rattle.vector_field.proofs.Paths.{other-In}
use Rattle.vector_field.proofs.InRange.{facet-range}
use Rattle.vector_field.proofs.Places.{length-at, later_by_place}
use Rattle.vector_field.proofs.checking.comes_before_later.Goals as goal
use Rattle.vector_field.proofs.checking.comes_before_later.Goals.{else-facet-pair-via-then-facet-pair+else-is_after, else-facet-pair-via-else-facet-pair}

module _ (space : List (List (List ℕ))) (p : Pair) (facets : List ℕ) (valid : IsSpace space) (incident : is_incident space p ≡ true) (same : facets ≡ facets_of space (p.dim + 1) p.upper) where
  facet_in : (i : ℕ) → i < length facets → In (get_or facets i 0) (facets_of space (p.dim + 1) p.upper)
  facet_in i l = subst (λ (fs : List ℕ). In (get_or facets i 0) fs) same (at-In facets i 0 l)

  in_range : (i : ℕ) → i < length facets → (1 ≤ get_or facets i 0) × (get_or facets i 0 ≤ count space p.dim)
  in_range i l = let h = incident-true space p incident in facet-range space p.dim p.upper (get_or facets i 0) valid h.upper_first h.upper_last (facet_in i l)

  module _ (last : List (List (Option ℕ))) (pairs : List Pair) (index : ℕ) (counts : lengths last ≡ counts_of space) (are : AreLast space pairs (length pairs) last) where
    -- what the test at a facet tells
    tells : (i : ℕ) → i < length facets → elim (at last p.dim (get_or facets i 0)) [ None ↦ false | Some k ↦ ltb index k ] ≡ list_any (has_lower p.dim (get_or facets i 0)) (drop (index + 1) pairs)
    tells i l =
        let r = in_range i l in
        later_by_place pairs p.dim (get_or facets i 0) index (at last p.dim (get_or facets i 0)) (are p.dim (get_or facets i 0) ((incident-true space p incident).low) r.0 r.1)

  late : (later : List Pair) (i : ℕ) → i < length facets → get_or facets i 0 ≢ p.lower → list_any (has_lower p.dim (get_or facets i 0)) later ≡ true → false ≡ comes_before space p later
  late later i l n e =
      sym (false_from_ne_true (comes_before space p later)
      (λ k. false≢true (sym (not-true (list_any (has_lower p.dim (get_or facets i 0)) later) (all-In (λ f. not (list_any (has_lower p.dim f) later)) k (other-In space p (get_or facets i 0) (facet_in i l) n))) ∙ e)))

  none_late : (later : List Pair) (i : ℕ) → length facets ≤ i → ((f : ℕ) → holds (take i facets) f ≡ true → f ≢ p.lower → list_any (has_lower p.dim f) later ≡ false) → true ≡ comes_before space p later
  none_late later i l h =
      sym (In-all (λ f. not (list_any (has_lower p.dim f) later)) (others space p)
      (λ f m.
      let there : In f (facets_of space (p.dim + 1) p.upper) = In-inside (λ g. not (eqb g p.lower)) (facets_of space (p.dim + 1) p.upper) m in
      let P : List ℕ → Type 0 = λ fs. In f fs in
      let taken : In f (take i facets) = subst P (sym (take_all i facets l)) (subst P (sym same) there) in
      not_from_false (list_any (has_lower p.dim f) later) (h f (In-holds taken) (eqb-false f p.lower (not-true (eqb f p.lower) (filter-In (λ g. not (eqb g p.lower)) (facets_of space (p.dim + 1) p.upper) m))))))

-- whether the place is after the index
abbrev told : (index : ℕ) → Option ℕ → Bool
told index o = elim o [ None ↦ false | Some k ↦ ltb index k ]

one_more : (facets : List ℕ) (later : List Pair) (dim lower i : ℕ) → i < length facets
    → ((f : ℕ) → holds (take i facets) f ≡ true → f ≢ lower → list_any (has_lower dim f) later ≡ false)
    → (get_or facets i 0 ≢ lower → list_any (has_lower dim (get_or facets i 0)) later ≡ false)
    → (f : ℕ) → holds (take (i + 1) facets) f ≡ true → f ≢ lower → list_any (has_lower dim f) later ≡ false
one_more facets later dim lower i l h k f e n =
    elim (or_cases (holds (take i facets) f) (eqb (get_or facets i 0) f) (sym (holds_more facets i f l) ∙ e)) [
      | inl a ↦ h f a n
      | inr a ↦
          let same : get_or facets i 0 ≡ f = eqb-true (get_or facets i 0) f a in
          subst (λ (z : ℕ). list_any (has_lower dim z) later ≡ false) same (k (λ x. n (sym same ∙ x)))
    ]

pub get-requires-clause-last : goal.get-requires-clause-last
get-requires-clause-last g c =
    let space : List (List (List ℕ)) = g.G.Graded.space c.args.graded.now in
    let p : Pair = pair_at c.args.pairs.now c.args.index in
    let r = in_range space p c.facets-facets.result.now c.facets-facets.ensures.valid c.requires.incident c.facets-facets.ensures.facets c.loop-facet.facet-index c.loop-facet-test.true in
    let low : p.dim < 3 = (incident-true space p c.requires.incident).low in
    omega (arith, r.1, length-at space c.args.last.now p.dim (omega arith) c.requires.counts)

pub returns-then-is_after : goal.returns-then-is_after
returns-then-is_after g c =
    let space : List (List (List ℕ)) = g.G.Graded.space c.args.graded.now in
    let p : Pair = pair_at c.args.pairs.now c.args.index in
    let facets : List ℕ = c.facets-facets.result.now in
    late space p facets c.facets-facets.ensures.valid c.requires.incident c.facets-facets.ensures.facets (drop (c.args.index + 1) c.args.pairs.now) c.loop-facet.facet-index c.loop-facet-test.true c.if-facet-pair.true
    (sym (tells space p facets c.facets-facets.ensures.valid c.requires.incident c.facets-facets.ensures.facets c.args.last.now c.args.pairs.now c.args.index c.requires.counts c.requires.last c.loop-facet.facet-index c.loop-facet-test.true)
    ∙ (ap (told c.args.index) (sym c.get.ensures) ∙ (sym c.is_after.ensures ∙ c.if-is_after.true)))

pub loop-facet-preserved : goal.loop-facet-preserved
loop-facet-preserved g c =
    let space : List (List (List ℕ)) = g.G.Graded.space c.args.graded.now in
    let p : Pair = pair_at c.args.pairs.now c.args.index in
    let facets : List ℕ = c.facets-facets.result.now in
    one_more facets (drop (c.args.index + 1) c.args.pairs.now) p.dim p.lower c.loop-facet.facet-index c.loop-facet-test.true c.loop-facet.invariant
    (elim c.else-facet-pair.branch [
      | else-facet-pair-via-then-facet-pair+else-is_after w ↦ λ n. sym (tells space p facets c.facets-facets.ensures.valid c.requires.incident c.facets-facets.ensures.facets c.args.last.now c.args.pairs.now c.args.index c.requires.counts c.requires.last c.loop-facet.facet-index c.loop-facet-test.true) ∙ (ap (told c.args.index) (sym w.get.ensures) ∙ (sym w.is_after.ensures ∙ w.if-is_after.false))
      | else-facet-pair-via-else-facet-pair w ↦ λ n. absurd (n w.if-facet-pair.false)
    ])

pub returns : goal.returns
returns g c =
    let space : List (List (List ℕ)) = g.G.Graded.space c.args.graded.now in
    none_late space (pair_at c.args.pairs.now c.args.index) c.facets-facets.result.now c.facets-facets.ensures.valid c.requires.incident c.facets-facets.ensures.facets (drop (c.args.index + 1) c.args.pairs.now) c.loop-facet.facet-index
    (omega (arith, c.loop-facet-test.false)) c.loop-facet.invariant
