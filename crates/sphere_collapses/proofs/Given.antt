-- What the calls on the faces of a 3-cell ask for.
use Rattle.std.proofs.Common.{◌≡◌, ℕ, ◌<◌, ◌≤◌, List, [], ◌∷◌, not, filter, map, length, get_or, ap, subst, arith, All, Contains}
use Rattle.std.proofs.lemmas.List.{length-map, get_or_default}
use Rattle.number_lists.specs.Words.{upto, holds}
use Rattle.number_lists.specs.Cofaces.{IsRising, coface_lists}
use Rattle.number_lists.specs.Members.{In}
use Rattle.number_lists.proofs.CallerLemmas.{In-Contains, In-at, at-In, length-upto, length-filter-le}
use Rattle.face_poset.specs.Poset.{IsLimited, IsSpace, count, facets_of}
use Rattle.face_poset.proofs.CallerLemmas.{facets_few}
use Rattle.regular_check.specs.Rules.{IsRegular}
use Rattle.regular_check.specs.Cycle.{CyclesGoRound}
use Rattle.sphere_collapses.specs.declared.tree.Taken.{Taken}
use Rattle.sphere_collapses.specs.Spheres.{edges_below, vertices_below}
use Rattle.sphere_collapses.specs.Laws.{IsFaceOf}
use Rattle.sphere_collapses.specs.Places.{number_at, AreFacetPlaces}
use Rattle.sphere_collapses.specs.Trees.{IsLink, IsPlaced, IsTree, IsDualTree, edges_left}
use Rattle.sphere_collapses.proofs.Kept.{facets_cell}
use Rattle.sphere_collapses.proofs.FaceCounts.{one_cell}
use Rattle.sphere_collapses.proofs.Trees.{tree_placed}
use Rattle.sphere_collapses.proofs.Linked.{places_rise, sides_link, length_sides}
use Rattle.sphere_collapses.proofs.Spheres.{disk_range, edge_range, disk_edge, edge_vertex}
use Rattle.sphere_collapses.proofs.Boundaries.{some_vertex}
use Rattle.sphere_collapses.proofs.Collapses.{edges_rise, two_at, left_edge}

module _ (space : List (List (List ℕ))) (cell face : ℕ) (hs : IsSpace space) (few : IsLimited space) (regular : IsRegular space) (f : IsFaceOf space cell face) where
  abbrev vs : List ℕ
  vs = vertices_below space cell

  abbrev es : List ℕ
  es = edges_below space cell

  abbrev cs : List ℕ
  cs = facets_of space 3 cell

  -- ---- how many there are

  pub edges_few : length (edges_below space cell) ≤ 60000
  edges_few = omega (arith, facets_few space 1 cs, few.most)

  pub vertices_few : length (vertices_below space cell) ≤ 60000
  vertices_few = omega (arith, facets_few space 0 es, few.most)

  pub disks_few : length (facets_of space 3 cell) ≤ 60000
  disks_few = omega (arith, ap length (one_cell space cell hs f.first f.last), facets_few space 2 (cell ∷ []), few.most)

  -- ---- where they are

  pub disks_in : All (λ c. (1 ≤ c) × (c ≤ count space 2)) (facets_of space 3 cell)
  disks_in = (facets_cell space hs 2 cell f.first f.last).within

  pub edges_in : All (λ e. (1 ≤ e) × (e ≤ count space 1)) (edges_below space cell)
  edges_in k d l = edge_range space hs regular cell f.first f.last (get_or es k d) (at-In es k d l)

  pub edges_there : All (λ c. All (Contains (edges_below space cell)) (facets_of space 2 c)) (facets_of space 3 cell)
  edges_there k d l j e m = In-Contains (disk_edge space hs regular cell f.first f.last (get_or cs k d) (get_or (facets_of space 2 (get_or cs k d)) j e) (at-In cs k d l) (at-In (facets_of space 2 (get_or cs k d)) j e m))

  pub ends_there : (left : List ℕ) → ((e : ℕ) → In e left → In e (edges_below space cell)) → All (λ e. All (Contains (vertices_below space cell)) (facets_of space 1 e)) left
  ends_there left inside k d l j v m =
      In-Contains (edge_vertex space hs regular cell f.first f.last (get_or left k d) (get_or (facets_of space 1 (get_or left k d)) j v) (inside (get_or left k d) (at-In left k d l)) (at-In (facets_of space 1 (get_or left k d)) j v m))

  pub left_in : (left : List ℕ) → ((e : ℕ) → In e left → In e (edges_below space cell)) → All (λ e. (1 ≤ e) × (e ≤ count space 1)) left
  left_in left inside k d l = edge_range space hs regular cell f.first f.last (get_or left k d) (inside (get_or left k d) (at-In left k d l))

  -- ---- the edges of the 2-cells

  module _ (borders : List (List ℕ)) (h : AreFacetPlaces space 2 (edges_below space cell) (facets_of space 3 cell) borders) where
    pub borders_rise : All (IsRising (length (edges_below space cell))) borders
    borders_rise k d l =
        let lt : k < length cs = omega (arith, l, h.as_many) in
        let w = disk_range space hs regular cell f.first f.last (get_or cs k 0) (at-In cs k 0 lt) in
        subst (IsRising (length es)) (get_or_default borders k [] d l)
        (places_rise es (edges_rise space cell face hs regular f) (facets_of space 2 (get_or cs k 0)) (get_or borders k []) (h.each k lt) ((facets_cell space hs 1 (get_or cs k 0) w.0 w.1).rises))

    pub borders_few : length borders ≤ 4294967295
    borders_few = omega (arith, h.as_many, disks_few)

    pub sides_fit : All (IsLink (length (facets_of space 3 cell))) (coface_lists (length (edges_below space cell)) borders)
    sides_fit = sides_link space cs es borders (edges_rise space cell face hs regular f) h (two_at space cell face hs regular f)

    pub sides_few : length (coface_lists (length (edges_below space cell)) borders) ≤ 4294967295
    sides_few = omega (arith, length_sides space cs es borders (edges_rise space cell face hs regular f) h, edges_few)

  -- ---- the trees

  module _ (dual : List Taken) (D : IsDualTree space (facets_of space 3 cell) (edges_below space cell) face dual) where
    long : length (coface_lists (length (edges_below space cell)) D.borders) ≡ length (edges_below space cell)
    long = length_sides space cs es D.borders (edges_rise space cell face hs regular f) D.borders_are

    pub dual_links : All (λ (t : Taken). (1 ≤ t.link) × (t.link ≤ length (edges_below space cell))) dual
    dual_links k d l = let w = D.tree_is.growing.within k d l in (w.low, omega (arith, w.high, long))

    pub dual_placed : All (IsPlaced (length (facets_of space 3 cell)) (length (edges_below space cell))) dual
    dual_placed = subst (λ (n : ℕ). All (IsPlaced (length (facets_of space 3 cell)) n) dual) long (tree_placed (coface_lists (length es) D.borders) (length cs) D.root dual D.tree_is)

    pub dual_few : length dual ≤ 60000
    dual_few = omega (arith, D.tree_is.few, disks_few)

    module _ (rounds : CyclesGoRound) (left : List ℕ) (left_is : left ≡ edges_left (edges_below space cell) dual) where
      pub left_inside : (e : ℕ) → In e left → In e (edges_below space cell)
      left_inside e i = left_edge space cell face hs regular f rounds dual D e (subst (In e) left_is i)

      pub left_few : length left ≤ 60000
      left_few =
          omega (arith, ap length left_is, length-map (filter (λ p. not (holds (map (λ (t : Taken). t.link) dual) p)) (upto (length es))) (number_at es), length-filter-le (λ p. not (holds (map (λ (t : Taken). t.link) dual) p)) (upto (length es)), length-upto (length es), edges_few)

      pub ends_few : (ends : List (List ℕ)) → AreFacetPlaces space 1 (vertices_below space cell) left ends → length ends ≤ 4294967295
      ends_few ends h = omega (arith, h.as_many, left_few)

      pub vertex_some : 1 ≤ length (vertices_below space cell)
      vertex_some = let k = In-at (some_vertex space cell face hs regular rounds f).1 in omega (arith, k.1)

      pub primal_placed : (ends : List (List ℕ)) (primal : List Taken) → AreFacetPlaces space 1 (vertices_below space cell) left ends → IsTree ends (length (vertices_below space cell)) 1 primal → All (IsPlaced (length (vertices_below space cell)) (length left)) primal
      primal_placed ends primal h t = subst (λ (n : ℕ). All (IsPlaced (length (vertices_below space cell)) n) primal) h.as_many (tree_placed ends (length vs) 1 primal t)

      pub primal_few : (ends : List (List ℕ)) (primal : List Taken) → IsTree ends (length (vertices_below space cell)) 1 primal → length primal ≤ 60000
      primal_few ends primal t = omega (arith, t.few, vertices_few)
