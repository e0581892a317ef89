-- The closed cells of dimension 3, and so of all dimensions, have a vertex over which each sheet has its choice.
use Rattle.std.proofs.Common.{◌≡◌, ◌≢◌, inl, inr, ℕ, zero, suc, ◌≤◌, List, eqb, Bool, true, false, not, ◌||◌, get_or, refl, sym, subst, arith, Contains}
use Rattle.std.proofs.lemmas.Bool.{eqb-true, eq-eqb, ne_eqb, eqb-false, false≢true, cases_lt}
use Rattle.std.specs.List.{list_any}
use Rattle.number_lists.specs.Members.{In}
use Rattle.number_lists.specs.Words.{upto, holds}
use Rattle.number_lists.proofs.CallerLemmas.{In-Contains, Contains-In, In-filter, filter-In, In-inside, any-In, any-some, holds-In, In-holds, In-upto}
use Rattle.face_poset.specs.declared.cells.Cell.{Cell}
use Rattle.face_poset.specs.Poset.{IsSpace, count, facets_of}
use Rattle.face_poset.specs.Below.{cell_at, closed_cell, IsBelow, itself, facet}
use Rattle.regular_check.specs.Rules.{IsRegular}
use Rattle.regular_check.specs.Cycle.{CyclesGoRound}
use Rattle.pair_laws.specs.Joins.{Joins}
use Rattle.pair_laws.specs.Sphere.{HasTrees}
use Rattle.sphere_collapses.specs.Collapses.{same, boundary_less}
use Rattle.sphere_collapses.specs.Laws.{IsFaceOf, SpheresHaveTrees, BoundariesCollapse, IsClosedList, CollapsedWalksClose, WalksClose}
use Rattle.sphere_collapses.specs.Spheres.{first_end, last_end, edges_below, vertices_below, first_side, last_side, edges_of}
use Rattle.sheet_laws.specs.Permutations.{InRange}
use Rattle.cover_space.specs.Total.{least_vertex, below}
use Rattle.cover_space.proofs.Inside.{dim_low, first_facet, below-range, below-dim, below-top, below-facet, In-closed, closed-In, In-below, least-below}
use Rattle.cover_space.proofs.Labelled as labelled
use Rattle.cover_space.proofs.Labelled.{IsLabelled, in_range, range-true, range-from, are_inverse}
use Rattle.cover_space.proofs.Chained.{tree-joins}
use Rattle.cover_space.proofs.Joining.{HasFlat, HasRoot}
use Rattle.cover_space.proofs.Rooted.{flat-label, cycle-closes, vertex-root, edge-root, disk-root}

-- what sphere_collapses and regular_check say
pub record Given : Type 1 where
  pub cycles : CyclesGoRound
  pub trees : SpheresHaveTrees
  pub boundaries : BoundariesCollapse
  pub walks : CollapsedWalksClose

other-dim : (d e n k : ℕ) → d ≢ e → same (cell_at d n) (cell_at e k) ≡ false
other-dim d e n k q = rw (ne_eqb d e q) refl

module _ (G : Given) (X : List (List (List ℕ))) (hs : IsSpace X) (regular : IsRegular X) (m : ℕ) (u : List (List ℕ)) (h : IsLabelled X m u) where
  module _ (c : ℕ) (r : InRange (count X 3) c) where
    abbrev face : ℕ
    face = get_or (facets_of X 3 c) 0 0

    on_face : IsFaceOf X c (get_or (facets_of X 3 c) 0 0)
    on_face = record { first = r.0; last = r.1; facet = In-Contains (first_facet X hs 2 c r) }

    kept : Cell → Bool
    kept k = not (same (cell_at 3 c) k || same (cell_at 2 (get_or (facets_of X 3 c) 0 0)) k)

    -- what is left of the boundary is below, and vertices and edges stay
    left-below : (d n : ℕ) → Contains (boundary_less X c (get_or (facets_of X 3 c) 0 0)) (cell_at d n) → IsBelow X 3 c d n
    left-below d n k = closed-In X hs 3 c r (In-Contains (In-inside (λ (k : Cell). not (same (cell_at 3 c) k || same (cell_at 2 (get_or (facets_of X 3 c) 0 0)) k)) (closed_cell X 3 c) (Contains-In k)))

    below-left : (d n : ℕ) → d ≤ 1 → IsBelow X 3 c d n → Contains (boundary_less X c (get_or (facets_of X 3 c) 0 0)) (cell_at d n)
    below-left d n l i =
        In-Contains (In-filter (λ (k : Cell). not (same (cell_at 3 c) k || same (cell_at 2 (get_or (facets_of X 3 c) 0 0)) k)) (Contains-In (In-closed X hs 3 c r i))
        (rw (other-dim 3 d c n (λ e. omega (arith, l, e)), other-dim 2 d (get_or (facets_of X 3 c) 0 0) n (λ e. omega (arith, l, e))) refl))

    -- the cell itself does not stay
    left-low : (d n : ℕ) → Contains (boundary_less X c (get_or (facets_of X 3 c) 0 0)) (cell_at d n) → d ≤ 2
    left-low d n k = by (below-dim X hs 3 c i) (eqb d 3) refl
      where
        i : IsBelow X 3 c d n
        i = left-below d n k

        passes : not (same (cell_at 3 c) (cell_at d n) || same (cell_at 2 (get_or (facets_of X 3 c) 0 0)) (cell_at d n)) ≡ true
        passes = filter-In (λ (k : Cell). not (same (cell_at 3 c) k || same (cell_at 2 (get_or (facets_of X 3 c) 0 0)) k)) (closed_cell X 3 c) (Contains-In k)

        by : d ≤ 3 → (b : Bool) → eqb d 3 ≡ b → d ≤ 2
        by l false e = elim (cases_lt d 3) [ inl a ↦ omega (arith, a) | inr a ↦ absurd (eqb-false d 3 e (omega (arith, a, l))) ]
        by l true e =
            let q : d ≡ 3 = eqb-true d 3 e in
            let t : n ≡ c = below-top X hs 3 c i q in
            let s : same (cell_at 3 c) (cell_at d n) ≡ true = rw (eq-eqb 3 d (sym q), eq-eqb c n (sym t)) refl in
            absurd (false≢true (rw s at passes))

    closed : IsClosedList X (boundary_less X c (get_or (facets_of X 3 c) 0 0))
    closed =
        record {
          there = λ d n k. below-range X hs 3 c r (left-below d n k);
          facets = λ d n k i j. (let l = left-low (suc d) n i in below-left d k (omega (arith, l)) (facet d n k (left-below (suc d) n i) j));
        }

    walks : WalksClose X (boundary_less X c (get_or (facets_of X 3 c) 0 0)) (labelled.forth m (count X 1) u h.long h.permutations) (labelled.against m (count X 1) u h.long h.permutations) (in_range m)
    walks =
        let p = G.boundaries X c (get_or (facets_of X 3 c) 0 0) hs regular on_face in
        G.walks X (boundary_less X c (get_or (facets_of X 3 c) 0 0)) p.0 (labelled.forth m (count X 1) u h.long h.permutations) (labelled.against m (count X 1) u h.long h.permutations) (in_range m) hs regular closed p.1
        (are_inverse m (count X 1) u h.long h.permutations) (λ k x i q. cycle-closes X hs regular m u h G.cycles k x (below-range X hs 3 c r (left-below 2 k i)) q)

    -- the vertices and edges below, as sphere_collapses lists them
    edge-listed : (e : ℕ) → In e (edges_below X c) → IsBelow X 3 c 1 e
    edge-listed e i =
        let s = any-some (λ k. holds (facets_of X 2 k) e) (facets_of X 3 c) (filter-In (λ j. list_any (λ k. holds (facets_of X 2 k) j) (facets_of X 3 c)) (upto (count X 1)) i) in
        facet 1 s.0 e (facet 2 c s.0 itself (In-Contains s.1)) (In-Contains (holds-In (facets_of X 2 s.0) s.2))

    listed-edge : (e : ℕ) → IsBelow X 3 c 1 e → In e (edges_below X c)
    listed-edge e i =
        let s = below-facet X hs 2 c i (omega arith) in
        let t = below-facet X hs 1 s.0 s.2 (omega arith) in
        let q : e ≡ t.0 = below-top X hs 1 t.0 t.2 refl in
        let r1 = below-range X hs 3 c r i in
        In-filter (λ j. list_any (λ k. holds (facets_of X 2 k) j) (facets_of X 3 c)) (In-upto (count X 1) e r1.0 r1.1)
        (any-In (λ k. holds (facets_of X 2 k) e) s.1 (In-holds (subst (λ (z : ℕ). In z (facets_of X 2 s.0)) (sym q) t.1)))

    listed-vertex : (v : ℕ) → IsBelow X 3 c 0 v → In v (vertices_below X c)
    listed-vertex v i =
        let s = below-facet X hs 2 c i (omega arith) in
        let t = below-facet X hs 1 s.0 s.2 (omega arith) in
        let w = below-facet X hs 0 t.0 t.2 (omega arith) in
        let q : v ≡ w.0 = below-top X hs 0 w.0 w.2 refl in
        let r0 = below-range X hs 3 c r i in
        let e : IsBelow X 3 c 1 t.0 = facet 1 s.0 t.0 (facet 2 c s.0 itself (In-Contains s.1)) (In-Contains t.1) in
        In-filter (λ j. list_any (λ k. holds (facets_of X 1 k) j) (edges_below X c)) (In-upto (count X 0) v r0.0 r0.1)
        (any-In (λ k. holds (facets_of X 1 k) v) (listed-edge t.0 e) (In-holds (subst (λ (z : ℕ). In z (facets_of X 1 t.0)) (sym q) w.1)))

    trees : HasTrees (vertices_below X c) (edges_below X c) (facets_of X 3 c) (first_end X) (last_end X) (first_side X c) (last_side X c) (edges_of X c) (get_or (facets_of X 3 c) 0 0) (least_vertex X 3 c)
    trees = G.trees X c (get_or (facets_of X 3 c) 0 0) (least_vertex X 3 c) hs regular on_face (In-Contains (listed-vertex (least_vertex X 3 c) (least-below X hs 3 c r)))

    solid-joined : (w : ℕ) → IsBelow X 3 c 0 w → Joins (first_end X) (last_end X) (holds (below X 3 c 1)) (least_vertex X 3 c) w
    solid-joined w i =
        let t = trees.vertices in
        tree-joins (first_end X) (last_end X) (holds (below X 3 c 1)) t.grown (λ p j. In-holds (In-below X hs 3 c r (edge-listed p.upper (t.within p j)))) w (holds-In t.taken (t.all w (listed-vertex w i)))

    solid-choice : (x : ℕ) → InRange m x → HasFlat X m u (IsBelow X 3 c 1) (least_vertex X 3 c) x
    solid-choice x q =
        let s = walks.sections (least_vertex X 3 c) x (below-left 0 (least_vertex X 3 c) (omega arith) (least-below X hs 3 c r)) (range-from m x q) in
        (s.over, record { here_is = s.here; sheets = λ w. range-true m (s.over w) (s.sheet w); edges = λ e i. flat-label X hs regular m u h s.over e (below-range X hs 3 c r i) (s.flat e (below-left 1 e (omega arith) i)) })

    pub solid-root : HasRoot X m u 3 c
    solid-root = record { root = least_vertex X 3 c; joined = solid-joined; choices = solid-choice }

  pub has_root : (d c : ℕ) → InRange (count X d) c → HasRoot X m u d c
  has_root zero c r = vertex-root X hs regular m u h c r
  has_root (suc zero) c r = edge-root X hs regular m u h c r
  has_root (suc (suc zero)) c r = disk-root X hs regular m u h G.cycles c r
  has_root (suc (suc (suc zero))) c r = solid-root c r
  has_root (suc (suc (suc (suc d)))) c r = absurd (let l = dim_low X hs (suc (suc (suc (suc d)))) c r in omega (arith, l))
