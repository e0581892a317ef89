-- The chosen field has each pair once, is valid and maximal, and leaves one vertex critical.
use Rattle.std.proofs.Common.{◌≡◌, ◌≢◌, ◌⊎◌, inl, inr, ℕ, zero, suc, ◌<◌, ◌≤◌, List, [], ◌∷◌, ◌++◌, length, filter, get_or, Bool, true, false, not, cond, ◌||◌, eqb, Option, refl, ap, sym, ◌∙◌, subst, arith}
use Rattle.std.specs.List.{list_all}
use Rattle.std.proofs.lemmas.Bool.{both_ways, cases_lt, eq-eqb, or_left, or_right, not_from_false, not-true}
use Rattle.face_poset.specs.declared.cells.Pair.{Pair}
use Rattle.number_lists.specs.Words.{upto, holds}
use Rattle.number_lists.specs.Members.{In, here}
use Rattle.std.proofs.lemmas.List.Kept.{IsStrictlyIncreasing-filter, AllPairs-from_increasing}
use Rattle.number_lists.proofs.CallerLemmas.{In-cases, append-In, In-left, In-right, In-filter, filter-In, In-inside, In-all, In-holds, holds-In, at-In, In-upto, upto-In, same_bool, same_increasing, increasing-upto, length-upto, length-filter-le}
use Rattle.face_poset.specs.Poset.{count, facets_of, cofaces_of, IsSpace}
use Rattle.regular_check.specs.Rules.{IsRegular}
use Rattle.regular_check.specs.Components.{component_of, component_count, is_least, ComponentsAreNumbered}
use Rattle.vector_field.specs.Pairs.{pair, is_used, unpaired, IsValid}
use Rattle.vector_field.specs.Paths.{Leads, arrived, along, has_path}
use Rattle.vector_field.specs.Maximal.{IsMaximal, is_settled}
use Rattle.vector_field.specs.Stages.{AreSettled}
use Rattle.vector_field.proofs.CallerLemmas.{Lined, lined-append, lined-two, Apart, apart-sym, Goes, IsLined, lined-from, valid-from, unused-from, unused-In, used-In, incident-true, Coface, cofaces-In, other-In, facets-cell, facet-range, path_is_exact, are-settled-more, maximal-from}
use Rattle.chosen_field.specs.Chosen.{high, loose, distances, goes_nearer, tree_edge, tree, listed, chosen}
use Rattle.chosen_field.specs.Laws.{IsConnected, Loose, LooseEdgesJoin, ChosenIsGood, IsListing, ListingNeverStops, IsDistance, GoesNearer, TreeGoesNearer}
use Rattle.chosen_field.proofs.Ends.{two_facets}
use Rattle.chosen_field.proofs.HighField.{high-is}
use Rattle.chosen_field.proofs.LooseEdges.{one-component}
use Rattle.chosen_field.proofs.InOrder.{first-passing, lined-pairs, lined-increasing, listed-In, In-listed, listed-lined, listed-least}
use Rattle.chosen_field.proofs.HighRanks.{high-apart, high-rank, high-ranked}
use Rattle.chosen_field.proofs.TreePairs.{distance, GoesTo, edge-goes, goes-back, end-range, IsTreePair, tree-In, In-tree, tree-apart, tree-ranked}
use Rattle.chosen_field.proofs.Nearness.{distance-first, distance-is, has_edge, one-distance}

-- ---- all pairs, each once

module _ (space : List (List (List ℕ))) (valid : IsSpace space) (regular : IsRegular space) where
  -- the parts of the list
  abbrev vertex_pairs : List Pair
  vertex_pairs = listed space (tree space) 0

  abbrev edge_pairs : List Pair
  edge_pairs = listed space (high space) 1

  abbrev disk_pairs : List Pair
  disk_pairs = listed space (high space) 2

  vertex-In : (p : Pair) → In p (vertex_pairs) → (In p (tree space)) × (p.dim ≡ 0)
  vertex-In p m = listed-In space 0 (tree space) (tree-apart space valid regular) (distance space valid) (tree-ranked space valid regular) p m

  edge-In : (p : Pair) → In p (edge_pairs) → (In p (high space)) × (p.dim ≡ 1)
  edge-In p m = listed-In space 1 (high space) (high-apart space 1) (high-rank space 1) (high-ranked space 1) p m

  disk-In : (p : Pair) → In p (disk_pairs) → (In p (high space)) × (p.dim ≡ 2)
  disk-In p m = listed-In space 2 (high space) (high-apart space 2) (high-rank space 2) (high-ranked space 2) p m

  In-vertex : (p : Pair) → In p (tree space) → In p (chosen space)
  In-vertex p m =
      let t : IsTreePair space valid p = tree-In space valid p m in
      In-left (edge_pairs ++ disk_pairs) (In-listed space 0 (tree space) (tree-apart space valid regular) (distance space valid) (tree-ranked space valid regular) p m t.dim)

  In-high : (p : Pair) → In p (high space) → In p (chosen space)
  In-high p m = by p.dim refl (incident-true space p ((lined-from space (high space) (high-is space).valid).incident p m)).low ((high-is space).above p m)
    where
      by : (d : ℕ) → p.dim ≡ d → p.dim < 3 → 1 ≤ p.dim → In p (chosen space)
      by zero e l a = absurd (omega (arith, e, a))
      by (suc zero) e l a = In-right (vertex_pairs) (In-left (disk_pairs) (In-listed space 1 (high space) (high-apart space 1) (high-rank space 1) (high-ranked space 1) p m e))
      by (suc (suc zero)) e l a = In-right (vertex_pairs) (In-right (edge_pairs) (In-listed space 2 (high space) (high-apart space 2) (high-rank space 2) (high-ranked space 2) p m e))
      by (suc (suc (suc d))) e l a = absurd (omega (arith, e, l))

  high-pair : (p : Pair) → In p (edge_pairs ++ disk_pairs) → In p (high space)
  high-pair p m = elim (append-In (edge_pairs) (disk_pairs) m) [ inl i ↦ (edge-In p i).0 | inr i ↦ (disk-In p i).0 ]

  chosen-In : (p : Pair) → In p (chosen space) → In p (high space) ⊎ In p (tree space)
  chosen-In p m = elim (append-In (vertex_pairs) (edge_pairs ++ disk_pairs) m) [ inl i ↦ inr (vertex-In p i).0 | inr i ↦ inl (high-pair p i) ]

  -- ---- the list is a field

  -- pairs of vertices with loose edges use no cell of the others
  tree-high : (p q : Pair) → In p (tree space) → In q (high space) → Apart p q
  tree-high p q m n =
      let t : IsTreePair space valid p = tree-In space valid p m in
      let g : GoesTo space valid p.lower p.upper = edge-goes space valid p.lower p.upper t.edge in
      let above : 1 ≤ q.dim = (high-is space).above q n in
      let free : is_used (high space) 1 p.upper ≡ false = not-true (is_used (high space) 1 p.upper) (filter-In (λ c. not (is_used (high space) 1 c)) (upto (count space 1)) g.loose_edge) in (
        λ u. elim u [ inl k ↦ omega (arith, k.0, t.dim, above) | inr k ↦ unused-In 1 p.upper free n (inl (omega (arith, k.0, t.dim), sym k.1)) ],
        λ u. elim u [ inl k ↦ omega (arith, k.0, t.dim, above) | inr k ↦ omega (arith, k.0, t.dim, above) ],
      )

  edge-disk : (p q : Pair) → In p (edge_pairs) → In q (disk_pairs) → Goes space p q
  edge-disk p q m n =
      let a = edge-In p m in
      let b = disk-In q n in
      record {
        apart = elim (lined-two (Goes space) (high space) (lined-from space (high space) (high-is space).valid).lined p q a.0 b.0) [
          | inl same ↦ absurd (omega (arith, ap (λ (z : Pair). z.dim) same, a.1, b.1))
          | inr k ↦ elim k [ inl g ↦ g.apart | inr g ↦ apart-sym q p g.apart ]
        ];
        free = λ d i. omega (arith, d, a.1, b.1);
      }

  chosen-lined : IsLined space (chosen space)
  chosen-lined = record {
    incident = λ p m. elim (chosen-In p m) [ inl i ↦ (lined-from space (high space) (high-is space).valid).incident p i | inr i ↦ (tree-apart space valid regular).incident p i ];
    lined = lined-append (Goes space) (vertex_pairs) (edge_pairs ++ disk_pairs)
        (listed-lined space 0 (tree space) (tree-apart space valid regular) (distance space valid) (tree-ranked space valid regular))
        (lined-append (Goes space) (edge_pairs) (disk_pairs) (listed-lined space 1 (high space) (high-apart space 1) (high-rank space 1) (high-ranked space 1))
        (listed-lined space 2 (high space) (high-apart space 2) (high-rank space 2) (high-ranked space 2)) edge-disk)
        (λ p q m n.
        let a = vertex-In p m in
        let h : In q (high space) = high-pair q n in
        record { apart = tree-high p q a.0 h; free = λ d i. let l : 1 ≤ q.dim = (high-is space).above q h in omega (arith, l, d, a.1) });
  }

  pub chosen-valid : IsValid space (chosen space)
  chosen-valid = valid-from space (chosen space) chosen-lined

  pub chosen-listing : IsListing space (high space ++ tree space) (chosen space)
  chosen-listing = record {
    all = λ p. (
      λ m. elim (chosen-In p m) [ inl i ↦ In-left (tree space) i | inr i ↦ In-right (high space) i ],
      λ m. elim (append-In (high space) (tree space) m) [ inl i ↦ In-high p i | inr i ↦ In-vertex p i ],
    );
    once = lined-pairs (λ p q. p ≢ q) (chosen space) (lined-apart (chosen space) (chosen-lined.lined));
    parts = (vertex_pairs, edge_pairs, disk_pairs);
    joined = refl;
    vertices = λ p m. (vertex-In p m).1;
    edges = λ p m. (edge-In p m).1;
    disks = λ p m. (disk-In p m).1;
    least_vertex = listed-least space 0 (tree space) (tree-apart space valid regular) (distance space valid) (tree-ranked space valid regular);
    least_edge = listed-least space 1 (high space) (high-apart space 1) (high-rank space 1) (high-ranked space 1);
    least_disk = listed-least space 2 (high space) (high-apart space 2) (high-rank space 2) (high-ranked space 2);
  }
    where
      lined-apart : (ps : List Pair) → Lined (Goes space) ps → Lined (λ p q. p ≢ q) ps
      lined-apart [] h = tt
      lined-apart (p ∷ ps) h = (λ q m same. (h.0 q m).apart.0 (inl (ap (λ (z : Pair). z.dim) same, ap (λ (z : Pair). z.lower) same)), lined-apart ps h.1)

  -- ---- the edge of a vertex

  module _ (some : 1 ≤ count space 0) (reached : (v : ℕ) → 1 ≤ v → v ≤ count space 0 → Loose space 1 v) where
    abbrev edge_of : (v : ℕ) → Option ℕ
    edge_of v = tree_edge space (loose space) (distances space (loose space)) v

    pub goes-nearer : (v : ℕ) → 2 ≤ v → v ≤ count space 0 → GoesNearer space v
    goes-nearer v a b =
        let h = has_edge space valid some reached v a b in
        let g : GoesTo space valid v h.0 = edge-goes space valid v h.0 h.1 in
        let r = end-range space valid h.0 g.nearer g.loose_edge g.there in
        record {
          edge = h.0;
          paired = In-vertex (pair 0 v h.0) (In-tree space valid v h.0 (omega (arith, a)) b h.1);
          loose_edge = g.loose_edge;
          nearer = g.nearer;
          here = g.here;
          there = g.there;
          distance = distance space valid g.nearer;
          of_nearer = distance-is space valid some reached g.nearer r.0 r.1;
          of_vertex = subst (λ (n : ℕ). IsDistance space v n) (sym g.falls) (distance-is space valid some reached v (omega (arith, a)) b);
          least = λ other w m i j d.
              let x = end-range space valid other w m j in
              let same : distance space valid w ≡ distance space valid g.nearer = one-distance space w (distance space valid w) (distance space valid g.nearer) (distance-is space valid some reached w x.0 x.1) d in
              elim (first-passing (λ x y. x < y) (goes_nearer space (distances space (loose space)) v) (loose space)
              (lined-increasing (loose space) (IsStrictlyIncreasing-filter (λ c. not (is_used (high space) 1 c)) (upto (count space 1)) (increasing-upto (count space 1)))) h.0 other h.1 m
              (goes-back space valid v other w m i j (omega (arith, same, g.falls)))) [
                | inl e ↦ omega (arith, e)
                | inr l ↦ omega (arith, l)
              ];
        }

    -- ---- maximal

    vertex-used : (v : ℕ) → 2 ≤ v → v ≤ count space 0 → is_used (chosen space) 0 v ≡ true
    vertex-used v a b = let h = has_edge space valid some reached v a b in used-In 0 v (In-vertex (pair 0 v h.0) (In-tree space valid v h.0 (omega (arith, a)) b h.1)) (inl (refl, refl))

    -- the pairs lead from each vertex to the first
    leads-down : (n v : ℕ) → distance space valid v ≤ n → 1 ≤ v → v ≤ count space 0 → Leads space (chosen space) 0 1 v
    leads-down zero v l a b = elim (cases_lt v 2) [
      | inl k ↦ subst (Leads space (chosen space) 0 1) (let s : 1 ≡ v = omega (arith, k, a) in s) arrived
      | inr k ↦ let h = has_edge space valid some reached v k b in let g : GoesTo space valid v h.0 = edge-goes space valid v h.0 h.1 in absurd (omega (arith, g.falls, l))
    ]
    leads-down (suc n) v l a b = by (cases_lt v 2) (λ w k c d. leads-down n w k c d)
      where
        by : (v < 2) ⊎ (2 ≤ v) → ((w : ℕ) → distance space valid w ≤ n → 1 ≤ w → w ≤ count space 0 → Leads space (chosen space) 0 1 w) → Leads space (chosen space) 0 1 v
        by (inl k) rec = subst (Leads space (chosen space) 0 1) (let s : 1 ≡ v = omega (arith, k, a) in s) arrived
        by (inr k) rec =
            let h = has_edge space valid some reached v k b in
            let g : GoesTo space valid v h.0 = edge-goes space valid v h.0 h.1 in
            let r = end-range space valid h.0 g.nearer g.loose_edge g.there in
            along (pair 0 v h.0) (In-vertex (pair 0 v h.0) (In-tree space valid v h.0 a b h.1)) refl
            (other-In space (pair 0 v h.0) g.nearer g.there (λ e. omega (arith, g.falls, ap (distance space valid) e)))
            (rec g.nearer (omega (arith, g.falls, l)) r.0 r.1)

    -- an edge at the first vertex that is in no pair has a path to it by its other end
    other-end : (e : ℕ) → 1 ≤ e → e ≤ count space 1 → (w : ℕ) × In w (facets_of space 1 e) × (w ≢ 1)
    other-end e a b =
        let l : length (facets_of space 1 e) ≡ 2 = two_facets space regular e a b in
        let lt : get_or (facets_of space 1 e) 0 0 < get_or (facets_of space 1 e) 1 0 = AllPairs-from_increasing (facets_of space 1 e) (facets-cell space 1 e valid (omega arith) a b).rises 0 1 0 (omega arith) (omega (arith, l)) in
        let first : In (get_or (facets_of space 1 e) 0 0) (facets_of space 1 e) = at-In (facets_of space 1 e) 0 0 (omega (arith, l)) in
        let low = facet-range space 0 e (get_or (facets_of space 1 e) 0 0) valid a b first in
        (get_or (facets_of space 1 e) 1 0, at-In (facets_of space 1 e) 1 0 (omega (arith, l)), λ same. omega (arith, lt, same, low.0))

    first-settled : (e : ℕ) → In e (cofaces_of space 0 1) → is_settled space (chosen space) 0 1 e ≡ true
    first-settled e m =
        let c : Coface space 0 1 e = cofaces-In space 0 1 e m in
        let o = other-end e c.first c.last in
        let r = facet-range space 0 e o.0 valid c.first c.last o.1 in
        or_right (is_used (chosen space) 1 e) (has_path space (chosen space) 0 e 1)
        ((path_is_exact space (chosen space) 0 e 1).1 (record { first = o.0; facet = o.1; other = o.2; leads = leads-down (distance space valid o.0) o.0 (omega arith) r.0 r.1 }))

    vertices-settled : AreSettled space (chosen space) 0 (count space 0)
    vertices-settled v a b = elim (cases_lt v 2) [
      | inl l ↦
          subst (λ (w : ℕ). (is_used (chosen space) 0 w || list_all (is_settled space (chosen space) 0 w) (cofaces_of space 0 w)) ≡ true) (let s : 1 ≡ v = omega (arith, a, l) in s)
          (or_right (is_used (chosen space) 0 1) (list_all (is_settled space (chosen space) 0 1) (cofaces_of space 0 1)) (In-all (is_settled space (chosen space) 0 1) (cofaces_of space 0 1) (λ e m. first-settled e m)))
      | inr l ↦ or_left (is_used (chosen space) 0 v) (list_all (is_settled space (chosen space) 0 v) (cofaces_of space 0 v)) (vertex-used v l b)
    ]

    pub chosen-maximal : IsMaximal space (chosen space)
    chosen-maximal =
        maximal-from space (chosen space) vertices-settled (are-settled-more space (high space) (chosen space) (λ p m. In-high p m) 1 (count space 1) (high-is space).edges)
        (are-settled-more space (high space) (chosen space) (λ p m. In-high p m) 2 (count space 2) (high-is space).disks)

    -- ---- one critical vertex

    first-free : is_used (chosen space) 0 1 ≡ false
    first-free =
        unused-from (chosen space) 0 1
        (λ p m u. elim u [
          | inl k ↦ elim (chosen-In p m) [
            | inl i ↦ let l : 1 ≤ p.dim = (high-is space).above p i in omega (arith, l, k.0)
            | inr i ↦
                let t : IsTreePair space valid p = tree-In space valid p i in
                let g : GoesTo space valid p.lower p.upper = edge-goes space valid p.lower p.upper t.edge in
                omega (arith, g.falls, ap (distance space valid) k.1, distance-first space valid some)
          ]
          | inr k ↦ omega (arith, k.0)
        ])

    pub one-critical : unpaired (chosen space) 0 (count space 0) ≡ 1 ∷ []
    one-critical =
        same_increasing (unpaired (chosen space) 0 (count space 0)) (1 ∷ []) (IsStrictlyIncreasing-filter (λ c. not (is_used (chosen space) 0 c)) (upto (count space 0)) (increasing-upto (count space 0))) (increasing-upto 1)
        (λ n. same_bool (holds (unpaired (chosen space) 0 (count space 0)) n) (holds (1 ∷ []) n) (to n) (from n))
      where
        to : (n : ℕ) → holds (unpaired (chosen space) 0 (count space 0)) n ≡ true → holds (1 ∷ []) n ≡ true
        to n e =
            let m : In n (unpaired (chosen space) 0 (count space 0)) = holds-In (unpaired (chosen space) 0 (count space 0)) e in
            let r = upto-In (count space 0) n (In-inside (λ c. not (is_used (chosen space) 0 c)) (upto (count space 0)) m) in
            let f : is_used (chosen space) 0 n ≡ false = not-true (is_used (chosen space) 0 n) (filter-In (λ c. not (is_used (chosen space) 0 c)) (upto (count space 0)) m) in
            elim (cases_lt n 2) [
              | inl l ↦ subst (λ (k : ℕ). holds (1 ∷ []) k ≡ true) (let s : 1 ≡ n = omega (arith, l, r.0) in s) (In-holds {x = 1} {xs = 1 ∷ []} here)
              | inr l ↦ absurd (both_ways (is_used (chosen space) 0 n) f (vertex-used n l r.1))
            ]

        from : (n : ℕ) → holds (1 ∷ []) n ≡ true → holds (unpaired (chosen space) 0 (count space 0)) n ≡ true
        from n e = elim (In-cases (holds-In (1 ∷ []) e)) [
          | inl same ↦
              subst (λ (k : ℕ). holds (unpaired (chosen space) 0 (count space 0)) k ≡ true) (sym same)
              (In-holds (In-filter (λ c. not (is_used (chosen space) 0 c)) (In-upto (count space 0) 1 (omega arith) some) (not_from_false (is_used (chosen space) 0 1) first-free)))
          | inr i ↦ elim i [ ]
        ]

-- ---- the laws

-- a space with one component has a vertex
pub has_vertex : (space : List (List (List ℕ))) → component_count space ≡ 1 → 1 ≤ count space 0
has_vertex space one = omega (arith, one, length-filter-le (is_least space) (upto (count space 0)), length-upto (count space 0))

reached : LooseEdgesJoin → (space : List (List (List ℕ))) → IsConnected space → (v : ℕ) → 1 ≤ v → v ≤ count space 0 → Loose space 1 v
reached join space h v a b = join space 1 v h (omega arith) (has_vertex space h.one) a b

pub chosen_is_good : ComponentsAreNumbered → LooseEdgesJoin → ChosenIsGood
chosen_is_good numbered join space h =
    let some : 1 ≤ count space 0 = has_vertex space h.one in
    record {
      valid = chosen-valid space h.valid h.regular;
      maximal = chosen-maximal space h.valid h.regular some (reached join space h);
      vertex = λ c a b.
          let same : component_of space 1 ≡ c = one-component numbered space h.one 1 (omega arith) some ∙ omega (arith, a, b, h.one) in
          ap (λ (vs : List ℕ). length (filter (λ v. eqb (component_of space v) c) vs)) (one-critical space h.valid h.regular some (reached join space h))
          ∙ ap (λ (t : Bool). length {A = ℕ} (cond t (1 ∷ []) [])) (eq-eqb (component_of space 1) c same);
    }

pub listing_never_stops : ListingNeverStops
listing_never_stops space h = chosen-listing space h.valid h.regular

pub tree_goes_nearer : LooseEdgesJoin → TreeGoesNearer
tree_goes_nearer join space v h a b = goes-nearer space h.valid h.regular (has_vertex space h.one) (reached join space h) v a b
