-- The pairs of the tree: each goes to a vertex whose distance is smaller by one.
use Rattle.std.proofs.Common.{◌≡◌, ◌≢◌, ◌⊎◌, inl, inr, ℕ, ◌+◌, ◌≤◌, List, true, not, eqb, Option, Some, None, refl, ap, sym, ◌∙◌, subst, arith}
use Rattle.std.specs.List.{list_any}
use Rattle.std.proofs.lemmas.Bool.{and_parts, and_from, eqb-true, eq-eqb, eqb-false, cases_eq}
use Rattle.std.proofs.lemmas.Option.{same_Some}
use Rattle.face_poset.specs.declared.cells.Pair.{Pair}
use Rattle.number_lists.specs.Words.{upto, holds}
use Rattle.number_lists.specs.Members.{In, here}
use Rattle.number_lists.proofs.CallerLemmas.{In-cases, In-flat_map, flat_map-In, any-In, any-some, In-inside, In-holds, holds-In, In-upto, upto-In}
use Rattle.face_poset.specs.Poset.{count, facets_of, IsSpace}
use Rattle.regular_check.specs.Rules.{IsRegular}
use Rattle.regular_check.specs.Components.{vertices}
use Rattle.pair_laws.specs.Ranks.{IsRanked}
use Rattle.pair_laws.specs.Distance.{distance_to}
use Rattle.pair_laws.proofs.CallerLemmas.{find-some, other-is}
use Rattle.vector_field.specs.Pairs.{pair, is_used, is_incident}
use Rattle.vector_field.proofs.CallerLemmas.{Apart, incident-from, facet-range}
use Rattle.chosen_field.specs.Chosen.{high, loose, joined_by, distances, distance_in, goes_nearer, tree_edge, tree_pair, tree, links}
use Rattle.chosen_field.proofs.Ends.{two_facets, one_of_two}
use Rattle.chosen_field.proofs.Uppers.{at-upto, AreApart, link-In}

module _ (space : List (List (List ℕ))) (valid : IsSpace space) where
  abbrev pub distance : (v : ℕ) → ℕ
  distance v = distance_to (joined_by space (loose space)) (vertices space) 1 v

  pub distance-at : (v : ℕ) → 1 ≤ v → v ≤ count space 0 → distance_in (distances space (loose space)) v ≡ distance v
  distance-at v a b = at-upto (distance_to (joined_by space (loose space)) (vertices space) 1) (count space 0) v a b

  pub loose-range : (e : ℕ) → In e (loose space) → (1 ≤ e) × (e ≤ count space 1)
  loose-range e m = upto-In (count space 1) e (In-inside (λ c. not (is_used (high space) 1 c)) (upto (count space 1)) m)

  pub end-range : (e v : ℕ) → In e (loose space) → In v (facets_of space 1 e) → (1 ≤ v) × (v ≤ count space 0)
  end-range e v m n = let r = loose-range e m in facet-range space 0 e v valid r.0 r.1 n

  -- ---- the edge of a vertex

  pub record GoesTo (v e : ℕ) : Type 0 where
    pub loose_edge : In e (loose space)
    pub here : In v (facets_of space 1 e)
    pub nearer : ℕ
    pub there : In nearer (facets_of space 1 e)
    pub falls : distance nearer + 1 ≡ distance v

  goes : (v e : ℕ) → In e (loose space) → goes_nearer space (distances space (loose space)) v e ≡ true → GoesTo v e
  goes v e m t =
      let b = and_parts (holds (facets_of space 1 e) v) (list_any (λ w. eqb (distance_in (distances space (loose space)) w + 1) (distance_in (distances space (loose space)) v)) (facets_of space 1 e)) t in
      let s = any-some (λ w. eqb (distance_in (distances space (loose space)) w + 1) (distance_in (distances space (loose space)) v)) (facets_of space 1 e) b.1 in
      let i : In v (facets_of space 1 e) = holds-In (facets_of space 1 e) b.0 in
      let x = end-range e v m i in
      let y = end-range e s.0 m s.1 in
      record {
        loose_edge = m;
        here = i;
        nearer = s.0;
        there = s.1;
        falls = omega (arith, distance-at v x.0 x.1, distance-at s.0 y.0 y.1, eqb-true (distance_in (distances space (loose space)) s.0 + 1) (distance_in (distances space (loose space)) v) s.2);
      }

  pub goes-back : (v e w : ℕ) → In e (loose space) → In v (facets_of space 1 e) → In w (facets_of space 1 e) → distance w + 1 ≡ distance v → goes_nearer space (distances space (loose space)) v e ≡ true
  goes-back v e w m i j f =
      let x = end-range e v m i in
      let y = end-range e w m j in
      and_from (holds (facets_of space 1 e) v) (list_any (λ u. eqb (distance_in (distances space (loose space)) u + 1) (distance_in (distances space (loose space)) v)) (facets_of space 1 e)) (In-holds i)
      (any-In (λ u. eqb (distance_in (distances space (loose space)) u + 1) (distance_in (distances space (loose space)) v)) j
      (eq-eqb (distance_in (distances space (loose space)) w + 1) (distance_in (distances space (loose space)) v) (omega (arith, distance-at v x.0 x.1, distance-at w y.0 y.1, f))))

  abbrev edge_of : (v : ℕ) → Option ℕ
  edge_of v = tree_edge space (loose space) (distances space (loose space)) v

  pub edge-goes : (v e : ℕ) → tree_edge space (loose space) (distances space (loose space)) v ≡ Some e → GoesTo v e
  edge-goes v e f = let s = find-some (goes_nearer space (distances space (loose space)) v) (loose space) e f in goes v e s.0 s.1

  -- ---- the pairs

  pub record IsTreePair (p : Pair) : Type 0 where
    pub dim : p.dim ≡ 0
    pub low : 1 ≤ p.lower
    pub high : p.lower ≤ count space 0
    pub edge : tree_edge space (loose space) (distances space (loose space)) p.lower ≡ Some p.upper

  pub tree-In : (p : Pair) → In p (tree space) → IsTreePair p
  tree-In p m =
      let s = flat_map-In (λ v. tree_pair v (tree_edge space (loose space) (distances space (loose space)) v)) (vertices space) m in
      let r = upto-In (count space 0) s.0 s.1 in
      by s.0 r.0 r.1 (edge_of s.0) refl s.2
    where
      by : (v : ℕ) → 1 ≤ v → v ≤ count space 0 → (o : Option ℕ) → tree_edge space (loose space) (distances space (loose space)) v ≡ o → In p (tree_pair v o) → IsTreePair p
      by v a b None e i = elim i [ ]
      by v a b (Some u) e i = elim (In-cases i) [
        | inl same ↦ subst IsTreePair (sym same) (record { dim = refl; low = a; high = b; edge = e })
        | inr j ↦ elim j [ ]
      ]

  pub In-tree : (v e : ℕ) → 1 ≤ v → v ≤ count space 0 → tree_edge space (loose space) (distances space (loose space)) v ≡ Some e → In (pair 0 v e) (tree space)
  In-tree v e a b f =
      In-flat_map (λ w. tree_pair w (tree_edge space (loose space) (distances space (loose space)) w)) {x = v} {xs = vertices space} (In-upto (count space 0) v a b)
      (subst (λ (o : Option ℕ). In (pair 0 v e) (tree_pair v o)) (sym f) here)

  module _ (regular : IsRegular space) where
    -- the only other end of the edge is the nearer one
    only-nearer : (v e g : ℕ) → (t : GoesTo v e) → In g (facets_of space 1 e) → g ≢ v → g ≡ t.nearer
    only-nearer v e g t m d =
        let r = loose-range e t.loose_edge in
        elim (one_of_two (facets_of space 1 e) v t.nearer g (two_facets space regular e r.0 r.1) t.here t.there (λ same. omega (arith, t.falls, ap (distance) same)) m) [ inl same ↦ absurd (d same) | inr same ↦ same ]

    tree-incident : (p : Pair) → In p (tree space) → is_incident space p ≡ true
    tree-incident p m =
        let t : IsTreePair p = tree-In p m in
        let g : GoesTo p.lower p.upper = edge-goes p.lower p.upper t.edge in
        let r = loose-range p.upper g.loose_edge in
        incident-from space p
        (record {
          low = omega (arith, t.dim);
          first = t.low;
          last = subst (λ (n : ℕ). p.lower ≤ count space n) (sym t.dim) t.high;
          upper_first = r.0;
          upper_last = subst (λ (n : ℕ). p.upper ≤ count space (n + 1)) (sym t.dim) r.1;
          facet = subst (λ (n : ℕ). In p.lower (facets_of space (n + 1) p.upper)) (sym t.dim) g.here;
        })

    pub tree-apart : AreApart space 0 (tree space)
    tree-apart = record { incident = tree-incident; apart = λ p q m n d e. by p q (tree-In p m) (tree-In q n) (cases_eq p.lower q.lower) }
      where
        by : (p q : Pair) → IsTreePair p → IsTreePair q → (p.lower ≡ q.lower) ⊎ (p.lower ≢ q.lower) → (p ≡ q) ⊎ Apart p q
        by p q t u (inl same) =
            let up : p.upper ≡ q.upper = same_Some p.upper q.upper (sym t.edge ∙ (ap (edge_of) same ∙ u.edge)) in
            inl (ap (λ (n : ℕ). pair n p.lower p.upper) (t.dim ∙ sym u.dim) ∙ (ap (λ (n : ℕ). pair q.dim n p.upper) same ∙ ap (λ (n : ℕ). pair q.dim q.lower n) up))
        by p q t u (inr ne) = inr (
          λ t'. elim t' [ inl k ↦ ne k.1 | inr k ↦ omega (arith, k.0, u.dim) ],
          λ t'. elim t' [
            | inl k ↦ omega (arith, k.0, t.dim)
            | inr k ↦
                let g : GoesTo p.lower p.upper = edge-goes p.lower p.upper t.edge in
                let h : GoesTo q.lower q.upper = edge-goes q.lower q.upper u.edge in
                let a : q.lower ≡ g.nearer = only-nearer p.lower p.upper q.lower g (subst (λ (e : ℕ). In q.lower (facets_of space 1 e)) (sym k.1) h.here) (λ same. ne (sym same)) in
                let b : p.lower ≡ h.nearer = only-nearer q.lower q.upper p.lower h (subst (λ (e : ℕ). In p.lower (facets_of space 1 e)) k.1 g.here) ne in
                omega (arith, g.falls, h.falls, ap (distance) a, ap (distance) b)
          ],
        )

    -- distances rank the pairs
    pub tree-ranked : IsRanked (facets_of space 1) (distance) (links space (tree space) 0)
    tree-ranked = record {
      falls = λ l g m o is.
          let t : IsTreePair (pair 0 l.lower l.upper) = tree-In (pair 0 l.lower l.upper) (link-In space 0 (tree space) tree-apart l m).0 in
          let k : GoesTo l.lower l.upper = edge-goes l.lower l.upper t.edge in
          let e : g ≡ k.nearer = only-nearer l.lower l.upper g k (In-inside (λ f. not (eqb f l.lower)) (facets_of space 1 l.upper) o) (eqb-false g l.lower (other-is (facets_of space 1) l g o)) in
          omega (arith, k.falls, ap (distance) e);
    }
