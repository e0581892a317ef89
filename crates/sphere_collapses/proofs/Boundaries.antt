-- The boundary of a 3-cell less one 2-cell: it has a collapse, and what that says of walks.
use Rattle.std.proofs.Common.{◌≡◌, ℕ, suc, ◌≤◌, List, [], ◌∷◌, Bool, true, false, cond, map, get_or, refl, sym, subst, arith}
use Rattle.std.specs.List.{list_any}
use Rattle.number_lists.specs.Words.{upto, holds}
use Rattle.number_lists.specs.Members.{In, here}
use Rattle.number_lists.proofs.CallerLemmas.{Contains-In, In-inside, upto-In}
use Rattle.face_poset.specs.declared.cells.Pair.{Pair}
use Rattle.face_poset.specs.Poset.{IsSpace, count, facets_of}
use Rattle.face_poset.specs.Below.{cell_at}
use Rattle.regular_check.specs.declared.cycles.Step.{Step}
use Rattle.regular_check.specs.Rules.{IsRegular}
use Rattle.regular_check.specs.Cycle.{cycle, CyclesGoRound}
use Rattle.pair_laws.specs.Joins.{Chain, AreInverse, walk, start}
use Rattle.pair_laws.specs.Sphere.{HasTrees}
use Rattle.pair_laws.proofs.CallerLemmas.{sphere_has_trees, chain-head}
use Rattle.sphere_collapses.specs.Collapses.{collapses, boundary_less}
use Rattle.sphere_collapses.specs.Spheres.{edges_below, vertices_below, first_end, last_end, first_side, last_side, edges_of}
use Rattle.sphere_collapses.specs.Laws.{IsFaceOf}
use Rattle.sphere_collapses.proofs.Kept.{first_facet, facet_in}
use Rattle.sphere_collapses.proofs.Boundary.{IsLeft, left_vertex, left_edge, left_disk, left-In, In-left}
use Rattle.sphere_collapses.proofs.Rounds.{round, steps_inside}
use Rattle.sphere_collapses.proofs.Spheres.{is_sphere, ends_in, disk_range, edge_range, disk_edge, edge_vertex, edge_ends}
use Rattle.sphere_collapses.proofs.Collapsing.{onto, vertex_pair, trees_collapse}
use Rattle.sphere_collapses.proofs.Sections.{IsThere, DoClose, sections, closed-walk}

module _ (space : List (List (List ℕ))) (cell face : ℕ) (hs : IsSpace space) (regular : IsRegular space) (rounds : CyclesGoRound) (f : IsFaceOf space cell face) where
  face_in : In face (facets_of space 3 cell)
  face_in = Contains-In f.facet

  face_range : (1 ≤ face) × (face ≤ count space 2)
  face_range = facet_in space hs 2 cell face f.first f.last face_in

  -- some vertex of the 3-cell
  pub some_vertex : (v : ℕ) × In v (vertices_below space cell)
  some_vertex =
      let e : ℕ = get_or (facets_of space 2 face) 0 0 in
      let i : In e (edges_below space cell) = disk_edge space hs regular cell f.first f.last face e face_in (first_facet space hs 1 face face_range.0 face_range.1) in
      (first_end space e, (edge_ends space hs regular cell f.first f.last e i).0)

  pub boundary_collapse : (pairs : List Pair) × (collapses space (boundary_less space cell face) pairs ≡ true)
  boundary_collapse =
      let v = some_vertex in
      let T : HasTrees (vertices_below space cell) (edges_below space cell) (facets_of space 3 cell) (first_end space) (last_end space) (first_side space cell) (last_side space cell) (edges_of space cell) face v.0 =
      sphere_has_trees (vertices_below space cell) (edges_below space cell) (facets_of space 3 cell) (first_end space) (last_end space) (first_side space cell) (last_side space cell) (edges_of space cell) face v.0
      (is_sphere space hs regular cell f.first f.last rounds) face_in v.1 in
      (onto T.cells.pairs (map vertex_pair T.vertices.pairs), trees_collapse space cell face hs regular f.first f.last v.0 v.1 T)

  -- ---- walks

  boundary_there : IsThere space (boundary_less space cell face)
  boundary_there =
      record {
        there = λ d n i. range d n (left-In space cell face hs f.first f.last d n i);
        facets = λ d n k i j. In-left space cell face hs f.first f.last (below d n k refl (left-In space cell face hs f.first f.last (suc d) n i) j);
      }
    where
      vertex_range : (n : ℕ) → In n (vertices_below space cell) → (1 ≤ n) × (n ≤ count space 0)
      vertex_range n i = upto-In (count space 0) n (In-inside (λ f. list_any (λ c. holds (facets_of space 1 c) f) (edges_below space cell)) (upto (count space 0)) i)

      range : (d n : ℕ) → IsLeft space cell face hs f.first f.last d n → (1 ≤ n) × (n ≤ count space d)
      range d n (left_vertex m i) = vertex_range m i
      range d n (left_edge m i) = edge_range space hs regular cell f.first f.last m i
      range d n (left_disk m i k) = disk_range space hs regular cell f.first f.last m i

      below : {e : ℕ} (d n k : ℕ) → e ≡ suc d → IsLeft space cell face hs f.first f.last e n → In k (facets_of space (suc d) n) → IsLeft space cell face hs f.first f.last d k
      below d n k q (left_vertex m i) j = absurd (omega (arith, q))
      below d n k q (left_edge m i) j =
          let z : d ≡ 0 = omega (arith, q) in
          subst (λ (x : ℕ). IsLeft space cell face hs f.first f.last x k) (sym z) (left_vertex k (edge_vertex space hs regular cell f.first f.last m k i (subst (λ (x : ℕ). In k (facets_of space (suc x) m)) z j)))
      below d n k q (left_disk m i l) j =
          let z : d ≡ 1 = omega (arith, q) in
          subst (λ (x : ℕ). IsLeft space cell face hs f.first f.last x k) (sym z) (left_edge k (disk_edge space hs regular cell f.first f.last m k i (subst (λ (x : ℕ). In k (facets_of space (suc x) m)) z j)))

  module _ (step back : ℕ → ℕ → ℕ) (is : ℕ → Bool) (inv : AreInverse step back is) (walks : (c x : ℕ) → In c (facets_of space 3 cell) → (c ≡ face → ⊥) → is x ≡ true → walk step back (cycle space c) x ≡ x) where
    closes : DoClose space hs regular rounds step back is inv (boundary_less space cell face)
    closes = record { walks = λ c x i s. by_left c x refl (left-In space cell face hs f.first f.last 2 c i) s }
      where
        by_left : {d : ℕ} (c x : ℕ) → d ≡ 2 → IsLeft space cell face hs f.first f.last d c → is x ≡ true → walk step back (cycle space c) x ≡ x
        by_left c x q (left_vertex m i) s = absurd (omega (arith, q))
        by_left c x q (left_edge m i) s = absurd (omega (arith, q))
        by_left c x q (left_disk m i k) s = walks m x i k s

    pub last_closes : (x : ℕ) → is x ≡ true → walk step back (cycle space face) x ≡ x
    last_closes x s =
        let r = round space face hs regular rounds face_range.0 face_range.1 in
        let inside : (t : Step) → In t (cycle space face) → In (cell_at 1 t.edge) (boundary_less space cell face) =
        λ t i. In-left space cell face hs f.first f.last (left_edge t.edge (disk_edge space hs regular cell f.first f.last face t.edge face_in (steps_inside space face hs regular rounds face_range.0 face_range.1 t i))) in
        by_start (cycle space face) r.0 r.1 inside
      where
        by_start : (ss : List Step) (v : ℕ) → Chain (first_end space) (last_end space) v ss v → ((t : Step) → In t ss → In (cell_at 1 t.edge) (boundary_less space cell face)) → walk step back ss x ≡ x
        by_start [] v c h = refl
        by_start (t ∷ ts) v c h =
            let e : v ≡ start (first_end space) (last_end space) t = (chain-head c).0 in
            let i : In (cell_at 1 t.edge) (boundary_less space cell face) = h t here in
            let j : In (cell_at 0 v) (boundary_less space cell face) = subst (λ (w : ℕ). In (cell_at 0 w) (boundary_less space cell face)) (sym e) (start_in t (boundary_there.there 1 t.edge i) i) in
            let pairs = boundary_collapse in
            let σ = sections space hs regular rounds step back is inv pairs.0 (boundary_less space cell face) boundary_there closes pairs.1 v x j s in
            closed-walk space hs regular rounds step back is inv (boundary_less space cell face) v x σ.0 (t ∷ ts) σ.1 c h
          where
            start_in : (t : Step) → (1 ≤ t.edge) × (t.edge ≤ count space 1) → In (cell_at 1 t.edge) (boundary_less space cell face) → In (cell_at 0 (start (first_end space) (last_end space) t)) (boundary_less space cell face)
            start_in t w i = by t.forward
              where
                by : (b : Bool) → In (cell_at 0 (cond b (first_end space t.edge) (last_end space t.edge))) (boundary_less space cell face)
                by true = boundary_there.facets 0 t.edge (first_end space t.edge) i ((ends_in space hs regular t.edge w.0 w.1).0)
                by false = boundary_there.facets 0 t.edge (last_end space t.edge) i ((ends_in space hs regular t.edge w.0 w.1).1)
