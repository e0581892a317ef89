-- The lifts of two tables are isomorphic exactly where one table is a renumbering of the other.
use Rattle.std.proofs.Common.{◌≡◌, ℕ, ◌-◌, List, [], map, length, get_or, ap, arith, sym, ◌∙◌, subst, Bool, true, false, cond}
use Rattle.std.specs.Prelude.{◌==◌}
use Rattle.std.specs.List.{list_all}
use Rattle.std.proofs.lemmas.List.FromFn.{get_or-map-range_with_len, length-map-range_with_len}
use Rattle.number_lists.specs.Members.{In}
use Rattle.number_lists.specs.Words.{upto}
use Rattle.number_lists.proofs.CallerLemmas.{In-all, map-In}
use Rattle.face_poset.specs.declared.cells.Pair.{Pair}
use Rattle.face_poset.specs.Poset.{count, facets_of, IsSpace}
use Rattle.regular_check.specs.Rules.{IsRegular}
use Rattle.regular_check.specs.Components.{ComponentsAreNumbered}
use Rattle.regular_check.specs.Cycle.{end_of, CyclesGoRound}
use Rattle.vector_field.specs.Pairs.{others, unpaired, IsValid}
use Rattle.sheet_laws.specs.Permutations.{InRange, is_permutation, at, back}
use Rattle.sheet_laws.specs.Tables.{cell, column, is_table, renumbered}
use Rattle.sheet_laws.specs.Labellings.{label, AreLabels, Carries, Isomorphic}
use Rattle.sheet_laws.specs.Lifts.{critical_edges, columns_of, IsLift, lift}
use Rattle.sheet_laws.proofs.CallerLemmas.{turn_of, back_turn, at-of-back, parts-of, same_turns, at_identity, identity_permutes, label-permutes, ends-of, over-vertices, lift_is_one}
use Rattle.live_laws.proofs.CallerLemmas.{table-long, at-column, same-cells, length-renumbered, renumbered-cell}
use Rattle.cover_laws.proofs.Carrying.{moved, moved-labels, moved-at, moved-carries, cycle-carried}
use Rattle.cover_laws.proofs.TreeTurns.{branch_step, IsBranch, branch}
use Rattle.cover_laws.specs.Laws.{IsomorphicLiftsAreRenumbered}
use Rattle.cover_laws.proofs.Gauge.{upper-range, edge-range}
use Rattle.cover_laws.proofs.Roots.{root, root-range, only-root}

module _ (space : List (List (List ℕ))) (pairs : List Pair) (is : IsSpace space) (regular : IsRegular space) (valid : IsValid space pairs) (m : ℕ) where
  -- ---- permutations that carry a lift to a lift

  module _ (s t : List ℕ) (u w f : List (List ℕ)) (a : IsLift space pairs m s u) (b : IsLift space pairs m t w) (h : Carries space m u w f)
      (root : ℕ) (root-range : InRange (count space 0) root) (only : (v : ℕ) → In v (unpaired pairs 0 (count space 0)) → v ≡ root) where
    over-permutes : (v : ℕ) → InRange (count space 0) v → is_permutation m (label f v) ≡ true
    over-permutes v r = label-permutes m (count space 0) f h.one_for_each h.permutations v r

    -- along the tree they do not change
    pass : (p : Pair) → In p pairs → p.dim ≡ 0 → ((g : ℕ) → In g (others space p) → (x : ℕ) → InRange m x → at (label f g) x ≡ at (label f root) x)
        → (x : ℕ) → InRange m x → at (label f p.lower) x ≡ at (label f root) x
    pass p i d k x q =
        ap (λ (v : ℕ). at (label f v) x) (sym br.starts)
        ∙ (by (get_or (facets_of space 1 p.upper) 0 0 == p.lower) ∙ k (end_of space (branch_step space p)) br.leads x q)
      where
        br : IsBranch space pairs is regular valid p
        br = branch space pairs is regular valid p i d

        e : ℕ
        e = p.upper

        along : at (label f (get_or (facets_of space 1 p.upper) 1 0)) x ≡ at (label f (get_or (facets_of space 1 p.upper) 0 0)) x
        along =
            ap (at (label f (get_or (facets_of space 1 p.upper) 1 0))) (sym (ap (λ (g : List ℕ). at g x) (a.tree p i d) ∙ at_identity m x q))
            ∙ (h.agrees p.upper x br.range q
            ∙ (ap (λ (g : List ℕ). at g (at (label f (get_or (facets_of space 1 p.upper) 0 0)) x)) (b.tree p i d)
            ∙ at_identity m (at (label f (get_or (facets_of space 1 p.upper) 0 0)) x)
            ((turn_of m (label f (get_or (facets_of space 1 p.upper) 0 0))
            (over-permutes (get_or (facets_of space 1 p.upper) 0 0) (ends-of space p.upper is regular br.range).first)).into x q)))

        by : (c : Bool) → at (label f (get_or (facets_of space 1 p.upper) (cond c 0 1) 0)) x ≡ at (label f (get_or (facets_of space 1 p.upper) (cond c 1 0) 0)) x
        by true = sym along
        by false = along

    over-same : (v : ℕ) → InRange (count space 0) v → (x : ℕ) → InRange m x → at (label f v) x ≡ at (label f root) x
    over-same =
        over-vertices space pairs is valid (λ v. (x : ℕ) → InRange m x → at (label f v) x ≡ at (label f root) x)
        (λ v i x q. ap (λ (k : ℕ). at (label f k) x) (only v i)) pass

    column-carried : (g x : ℕ) → InRange (columns_of space pairs) g → InRange m x
        → at (label f root) (cell (columns_of space pairs) s x g) ≡ cell (columns_of space pairs) t (at (label f root) x) g
    column-carried g x r q =
        let c = columns_of space pairs in
        let e = at (critical_edges space pairs) g in
        let er = edge-range space pairs is regular valid g r in
        let ends = ends-of space e is regular er in
        let y : InRange m (at (label f root) x) = (turn_of m (label f root) (over-permutes root root-range)).into x q in
        let pe = label-permutes m (count space 1) u a.labels.one_for_each a.labels.permutations e er in
        let z : InRange m (at (label u e) x) = (turn_of m (label u e) pe).into x q in
        ap (at (label f root)) (sym (ap (λ (k : List ℕ). at k x) (a.columns g r) ∙ at-column c m s g x q))
        ∙ (sym (over-same (get_or (facets_of space 1 e) 1 0) ends.second (at (label u e) x) z)
        ∙ (h.agrees e x er q
        ∙ (ap (at (label w e)) (over-same (get_or (facets_of space 1 e) 0 0) ends.first x q)
        ∙ (ap (λ (k : List ℕ). at k (at (label f root) x)) (b.columns g r) ∙ at-column c m t g (at (label f root) x) y))))

    pub carried-renumbered : is_table (columns_of space pairs) m t ≡ true → t ≡ renumbered (columns_of space pairs) m (label f root) s
    carried-renumbered table =
        let c = columns_of space pairs in
        same-cells c m t (renumbered c m (label f root) s) (table-long c m t table) (length-renumbered c m (label f root) s) (λ x g q r.
        let p = over-permutes root root-range in
        let y : InRange m (back (label f root) x) = (back_turn m (label f root) p).into x q in
        ap (λ (k : ℕ). cell c t k g) (sym (at-of-back m (label f root) p x q))
        ∙ (sym (column-carried g (back (label f root) x) r y) ∙ sym (renumbered-cell c m (label f root) s x g q r)))

  -- ---- a renumbered table

  module _ (law : CyclesGoRound) (s f : List ℕ) (u : List (List ℕ)) (a : IsLift space pairs m s u) (p : is_permutation m f ≡ true) where
    alike : List (List ℕ)
    alike = map (λ v. f) (upto (count space 0))

    alike-long : length alike ≡ count space 0
    unfolding alike
    alike-long = length-map-range_with_len (λ v. f) 1 (count space 0)

    alike-permute : list_all (is_permutation m) alike ≡ true
    unfolding alike
    alike-permute =
        In-all (is_permutation m) (map (λ v. f) (upto (count space 0)))
        (λ g i. (let r = map-In (λ v. f) (upto (count space 0)) i in ap (is_permutation m) r.2 ∙ p))

    label-alike : (v : ℕ) → InRange (count space 0) v → label alike v ≡ f
    unfolding alike
    label-alike v r = get_or-map-range_with_len (λ v. f) 1 (count space 0) (v - 1) v [] (omega (arith, r.0, r.1)) (omega (arith, r.0))

    other : List (List ℕ)
    other = moved space m is regular u alike a.labels alike-long alike-permute

    other-labels : AreLabels space m other
    unfolding other
    other-labels = moved-labels space m is regular u alike a.labels alike-long alike-permute

    other-carries : Carries space m u other alike
    unfolding other
    other-carries = moved-carries space m is regular u alike a.labels alike-long alike-permute

    other-at : (e x : ℕ) → InRange (count space 1) e → InRange m x → at (label other e) x ≡ at f (at (label u e) (back f x))
    unfolding other
    other-at e x r q =
        let ends = ends-of space e is regular r in
        moved-at space m is regular u alike a.labels alike-long alike-permute e x r q
        ∙ (ap (λ (k : List ℕ). at k (at (label u e) (back (label alike (get_or (facets_of space 1 e) 0 0)) x)))
        (label-alike (get_or (facets_of space 1 e) 1 0) ends.second)
        ∙ ap (λ (k : List ℕ). at f (at (label u e) (back k x))) (label-alike (get_or (facets_of space 1 e) 0 0) ends.first))

    other-long : (e : ℕ) → InRange (count space 1) e → length (label other e) ≡ m
    other-long e r = (parts-of m (label other e) (label-permutes m (count space 1) other other-labels.one_for_each other-labels.permutations e r)).long

    back-into : (x : ℕ) → InRange m x → InRange m (back f x)
    back-into x q = (back_turn m f p).into x q

    other-lift : IsLift space pairs m (renumbered (columns_of space pairs) m f s) other
    other-lift = record {
      labels = other-labels;
      tree = λ k i d.
          let r = (branch space pairs is regular valid k i d).range in
          same_turns m (label other k.upper) (upto m) (other-long k.upper r) (parts-of m (upto m) (identity_permutes m)).long (λ x q.
          other-at k.upper x r q
          ∙ (ap (at f) (ap (λ (g : List ℕ). at g (back f x)) (a.tree k i d) ∙ at_identity m (back f x) (back-into x q))
          ∙ (at-of-back m f p x q ∙ sym (at_identity m x q))));
      columns = λ g r.
          let c = columns_of space pairs in
          let e = at (critical_edges space pairs) g in
          let er = edge-range space pairs is regular valid g r in
          same_turns m (label other e) (column c m (renumbered c m f s) g) (other-long e er)
          (length-map-range_with_len (λ x. cell c (renumbered c m f s) x g) 1 m) (λ x q.
          other-at e x er q
          ∙ (ap (at f) (ap (λ (k : List ℕ). at k (back f x)) (a.columns g r) ∙ at-column c m s g (back f x) (back-into x q))
          ∙ sym (at-column c m (renumbered c m f s) g x q ∙ renumbered-cell c m f s x g q r)));
      forced = λ k i d.
          cycle-carried space m is regular u other alike a.labels other-labels other-carries law k.upper (upper-range space pairs valid k i d) (a.forced k i d);
    }

    pub renumbered-isomorphic : is_table (columns_of space pairs) m (renumbered (columns_of space pairs) m f s) ≡ true
        → Isomorphic space m u (lift space pairs m (renumbered (columns_of space pairs) m f s))
    renumbered-isomorphic table =
        subst (λ (v : List (List ℕ)). Isomorphic space m u v)
        ((lift_is_one law space pairs m (renumbered (columns_of space pairs) m f s) is regular valid table).only other other-lift)
        (alike, other-carries)

pub isomorphic_lifts : CyclesGoRound → ComponentsAreNumbered → IsomorphicLiftsAreRenumbered
isomorphic_lifts law numbered space pairs m s t h a b =
    let v = h.good.valid in
    let u = (lift_is_one law space pairs m s h.is h.regular v a).is in
    let w = (lift_is_one law space pairs m t h.is h.regular v b).is in (
      λ i. record {
        by = label i.0 (root numbered space pairs h);
        permutes = label-permutes m (count space 0) i.0 i.1.one_for_each i.1.permutations (root numbered space pairs h) (root-range numbered space pairs h);
        is = carried-renumbered space pairs h.is h.regular v m s t (lift space pairs m s) (lift space pairs m t) i.0 u w i.1
            (root numbered space pairs h) (root-range numbered space pairs h) (only-root numbered space pairs h) b;
      },
      λ r.
          let same : t ≡ renumbered (columns_of space pairs) m r.by s = r.is in
          subst (λ (z : List ℕ). Isomorphic space m (lift space pairs m s) (lift space pairs m z)) (sym same)
          (renumbered-isomorphic space pairs h.is h.regular v m law s r.by (lift space pairs m s) u r.permutes
          (subst (λ (z : List ℕ). is_table (columns_of space pairs) m z ≡ true) same b)),
    )
