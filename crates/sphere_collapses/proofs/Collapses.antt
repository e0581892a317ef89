-- The trees that the searches grow, by places, give a collapse.
use Rattle.std.proofs.Common.{◌≡◌, ℕ, ◌<◌, ◌≤◌, List, [], ◌∷◌, ◌++◌, Bool, true, false, not, filter, map, reverse, length, get_or, refl, ap, sym, ◌∙◌, subst, arith, All, append_assoc}
use Rattle.std.specs.List.{list_any}
use Rattle.std.specs.List.Sorted.{IsStrictlyIncreasing}
use Rattle.std.proofs.lemmas.Bool.{false≢true, false_from_ne_true}
use Rattle.std.proofs.lemmas.List.{reverse-append, reverse-reverse, map-append}
use Rattle.std.proofs.lemmas.List.Kept.{IsStrictlyIncreasing-filter}
use Rattle.number_lists.specs.Words.{upto, holds}
use Rattle.number_lists.specs.Cofaces.{coface_lists}
use Rattle.number_lists.specs.Members.{In}
use Rattle.number_lists.proofs.CallerLemmas.{Contains-In, In-Contains, In-map, map-In, In-filter, filter-In, In-inside, In-reverse, reverse-In, holds-In, In-holds, In-at, at-In, In-upto, upto-In, increasing-upto}
use Rattle.face_poset.specs.declared.cells.Pair.{Pair}
use Rattle.face_poset.specs.Poset.{IsSpace, count, facets_of}
use Rattle.regular_check.specs.Rules.{IsRegular, sharing}
use Rattle.regular_check.specs.Cycle.{CyclesGoRound}
use Rattle.pair_laws.specs.Joins.{Joins}
use Rattle.pair_laws.specs.Tree.{Link, HasTree}
use Rattle.pair_laws.specs.Sphere.{IsSphere, HasTrees}
use Rattle.pair_laws.proofs.CallerLemmas.{joins-through}
use Rattle.sphere_collapses.specs.declared.tree.Taken.{Taken}
use Rattle.sphere_collapses.specs.Collapses.{collapses, boundary_less}
use Rattle.sphere_collapses.specs.Spheres.{edges_below, vertices_below, first_end, last_end, first_side, last_side, edges_of}
use Rattle.sphere_collapses.specs.Laws.{IsFaceOf}
use Rattle.sphere_collapses.specs.Places.{number_at, AreFacetPlaces}
use Rattle.sphere_collapses.specs.Trees.{IsWithin, IsTree, IsLink, edges_left, disk_pair_at, vertex_pair_at, IsDualTree}
use Rattle.sphere_collapses.proofs.Frees.{turned}
use Rattle.sphere_collapses.proofs.Trees.{ends_range}
use Rattle.sphere_collapses.proofs.Linked.{place_once, place_in, In-place, sides_link, from_side, to_side, length_sides, ends_link, from_vertex, to_vertex}
use Rattle.sphere_collapses.proofs.Kept.{facets_cell, two_ends_kept}
use Rattle.sphere_collapses.proofs.Spheres.{is_sphere, edge_range, two_sides}
use Rattle.sphere_collapses.proofs.Collapsing.{uppers, onto, vertex_pair, trees_collapse}
use Rattle.sphere_collapses.proofs.Moved.{spans, both_trees}
use Rattle.sphere_collapses.proofs.Boundaries.{some_vertex}
use Rattle.sphere_collapses.proofs.Assembled.{numbers_of, number_tree}

-- ---- lists of pairs

onto_is : (disks edges : List ℕ) (ts : List Taken) (qs : List Pair) → onto (map (numbers_of disks edges) ts) qs ≡ map (disk_pair_at disks edges) (reverse ts) ++ qs
onto_is disks edges [] qs = refl
onto_is disks edges (t ∷ ts) qs =
    onto_is disks edges ts (disk_pair_at disks edges t ∷ qs)
    ∙ sym (ap (λ (us : List Taken). map (disk_pair_at disks edges) us ++ qs) (reverse-append (t ∷ []) ts)
    ∙ (ap (λ (ps : List Pair). ps ++ qs) (map-append (disk_pair_at disks edges) (reverse ts) (t ∷ [])) ∙ append_assoc (map (disk_pair_at disks edges) (reverse ts)) (disk_pair_at disks edges t ∷ []) qs))

vertex_pairs : (vertices left : List ℕ) (ts : List Taken) → map vertex_pair (map (numbers_of vertices left) ts) ≡ map (vertex_pair_at vertices left) ts
vertex_pairs vertices left [] = refl
vertex_pairs vertices left (t ∷ ts) = ap (λ (ps : List Pair). vertex_pair_at vertices left t ∷ ps) (vertex_pairs vertices left ts)

module _ (space : List (List (List ℕ))) (cell face : ℕ) (hs : IsSpace space) (regular : IsRegular space) (f : IsFaceOf space cell face) where
  abbrev vs : List ℕ
  vs = vertices_below space cell

  abbrev es : List ℕ
  es = edges_below space cell

  abbrev cs : List ℕ
  cs = facets_of space 3 cell

  pub vertices_rise : IsStrictlyIncreasing (vertices_below space cell)
  vertices_rise = IsStrictlyIncreasing-filter (λ f. list_any (λ c. holds (facets_of space 1 c) f) (edges_below space cell)) (upto (count space 0)) (increasing-upto (count space 0))

  pub edges_rise : IsStrictlyIncreasing (edges_below space cell)
  edges_rise = IsStrictlyIncreasing-filter (λ f. list_any (λ c. holds (facets_of space 2 c) f) (facets_of space 3 cell)) (upto (count space 1)) (increasing-upto (count space 1))

  pub disks_rise : IsStrictlyIncreasing (facets_of space 3 cell)
  disks_rise = (facets_cell space hs 2 cell f.first f.last).rises

  pub two_at : (k : ℕ) → 1 ≤ k → k ≤ length (edges_below space cell) → length (sharing space 2 (facets_of space 3 cell) (number_at (edges_below space cell) k)) ≡ 2
  two_at k low high = two_sides space hs regular cell f.first f.last (number_at es k) (In-place es edges_rise k low high)

  module _ (rounds : CyclesGoRound) where
    S : IsSphere (vertices_below space cell) (edges_below space cell) (facets_of space 3 cell) (first_end space) (last_end space) (first_side space cell) (last_side space cell) (edges_of space cell)
    S = is_sphere space hs regular cell f.first f.last rounds

    -- ---- the tree of 2-cells

    module _ (dual : List Taken) (D : IsDualTree space (facets_of space 3 cell) (edges_below space cell) face dual) where
      dual_tree : (T : HasTree (first_side space cell) (last_side space cell) face (facets_of space 3 cell) (edges_below space cell)) × (T.pairs ≡ map (numbers_of (facets_of space 3 cell) (edges_below space cell)) (reverse dual))
      dual_tree =
          subst (λ (r : ℕ). (T : HasTree (first_side space cell) (last_side space cell) r (facets_of space 3 cell) (edges_below space cell)) × (T.pairs ≡ map (numbers_of (facets_of space 3 cell) (edges_below space cell)) (reverse dual))) D.root_is
          (number_tree cs es (coface_lists (length es) D.borders) D.root dual (first_side space cell) (last_side space cell) D.tree_is disks_rise (length_sides space cs es D.borders edges_rise D.borders_are)
          (from_side space cs es D.borders edges_rise D.borders_are two_at) (to_side space cs es D.borders edges_rise D.borders_are two_at)
          (ends_range (coface_lists (length es) D.borders) (length cs) (sides_link space cs es D.borders edges_rise D.borders_are two_at)) (holds es) es (λ e o. holds-In es o) (λ e i. i) S.cells_once
          (λ n i. subst (λ (x : ℕ). Joins (first_side space cell) (last_side space cell) (holds (edges_below space cell)) x n) (sym D.root_is) (S.together face n face_in i)))
        where
          face_in : In face (facets_of space 3 cell)
          face_in = Contains-In f.facet

      T : HasTree (first_side space cell) (last_side space cell) face (facets_of space 3 cell) (edges_below space cell)
      T = dual_tree.0

      pairs_are : dual_tree.0.pairs ≡ map (numbers_of (facets_of space 3 cell) (edges_below space cell)) (reverse dual)
      pairs_are = dual_tree.1

      -- the links of the tree, by place and by number
      link_at : (t : Taken) → In t dual → (1 ≤ t.link) × (t.link ≤ length (edges_below space cell))
      link_at t i =
          let c = In-Contains i in
          let w : IsWithin (length (coface_lists (length es) D.borders)) t = subst (IsWithin (length (coface_lists (length es) D.borders))) c.2 (D.tree_is.growing.within c.0 t c.1) in
          (w.low, omega (arith, w.high, length_sides space cs es D.borders edges_rise D.borders_are))

      link_number : (p : ℕ) → holds (map (λ (t : Taken). t.link) dual) p ≡ true → holds (uppers dual_tree.0.pairs) (number_at (edges_below space cell) p) ≡ true
      link_number p e =
          let r = map-In (λ (t : Taken). t.link) dual (holds-In (map (λ (t : Taken). t.link) dual) e) in
          let i : In (numbers_of cs es r.0) (map (numbers_of cs es) (reverse dual)) = In-map (numbers_of cs es) (In-reverse r.1) in
          let j : In (number_at es r.0.link) (uppers dual_tree.0.pairs) = In-map (λ (q : Link). q.upper) (subst (In (numbers_of cs es r.0)) (sym pairs_are) i) in
          In-holds (subst (λ (x : ℕ). In (number_at es x) (uppers dual_tree.0.pairs)) (sym r.2) j)

      number_link : (p : ℕ) → 1 ≤ p → p ≤ length (edges_below space cell) → holds (uppers dual_tree.0.pairs) (number_at (edges_below space cell) p) ≡ true → holds (map (λ (t : Taken). t.link) dual) p ≡ true
      number_link p low high e =
          let r = map-In (λ (q : Link). q.upper) dual_tree.0.pairs (holds-In (uppers dual_tree.0.pairs) e) in
          let s = map-In (numbers_of cs es) (reverse dual) (subst (In r.0) pairs_are r.1) in
          let i : In s.0 dual = reverse-In dual s.1 in
          let w = link_at s.0 i in
          let same : p ≡ s.0.link = place_once es edges_rise p s.0.link low high w.0 w.1 (r.2 ∙ ap (λ (q : Link). q.upper) s.2) in
          In-holds (subst (λ (x : ℕ). In x (map (λ (t : Taken). t.link) dual)) (sym same) (In-map (λ (t : Taken). t.link) i))

      abbrev others : List ℕ
      others = filter (λ e. not (holds (map (λ (p : Link). p.upper) dual_tree.0.pairs) e)) (edges_below space cell)

      abbrev untaken : ℕ → Bool
      untaken p = not (holds (map (λ (t : Taken). t.link) dual) p)

      left-In : (e : ℕ) → In e (edges_left (edges_below space cell) dual) → In e (filter (λ e. not (holds (map (λ (p : Link). p.upper) dual_tree.0.pairs) e)) (edges_below space cell))
      left-In e i =
          let r = map-In (number_at es) (filter untaken (upto (length es))) i in
          let w = upto-In (length es) r.0 (In-inside untaken (upto (length es)) r.1) in
          let no : holds (map (λ (t : Taken). t.link) dual) r.0 ≡ false = turned (holds (map (λ (t : Taken). t.link) dual) r.0) (filter-In untaken (upto (length es)) r.1) in
          let free : holds (uppers dual_tree.0.pairs) (number_at es r.0) ≡ false = false_from_ne_true (holds (uppers dual_tree.0.pairs) (number_at es r.0)) (λ e. false≢true (sym no ∙ number_link r.0 w.0 w.1 e)) in
          subst (λ (x : ℕ). In x others) (sym r.2) (In-filter (λ e. not (holds (map (λ (p : Link). p.upper) dual_tree.0.pairs) e)) (In-place es edges_rise r.0 w.0 w.1) (ap not free))

      In-left : (e : ℕ) → In e (filter (λ e. not (holds (map (λ (p : Link). p.upper) dual_tree.0.pairs) e)) (edges_below space cell)) → In e (edges_left (edges_below space cell) dual)
      In-left e i =
          let p = place_in es edges_rise e (In-inside (λ e. not (holds (map (λ (p : Link). p.upper) dual_tree.0.pairs) e)) es i) in
          let free : holds (uppers dual_tree.0.pairs) e ≡ false = turned (holds (uppers dual_tree.0.pairs) e) (filter-In (λ e. not (holds (map (λ (p : Link). p.upper) dual_tree.0.pairs) e)) es i) in
          let no : holds (map (λ (t : Taken). t.link) dual) p.0 ≡ false =
          false_from_ne_true (holds (map (λ (t : Taken). t.link) dual) p.0) (λ k. false≢true (sym free ∙ subst (λ (x : ℕ). holds (uppers dual_tree.0.pairs) x ≡ true) p.3 (link_number p.0 k))) in
          subst (λ (x : ℕ). In x (edges_left es dual)) p.3 (In-map (number_at es) (In-filter untaken (In-upto (length es) p.0 p.1 p.2) (ap not no)))

      -- an edge that is left is an edge
      pub left_edge : (e : ℕ) → In e (edges_left (edges_below space cell) dual) → In e (edges_below space cell)
      left_edge e i = In-inside (λ e. not (holds (map (λ (p : Link). p.upper) dual_tree.0.pairs) e)) es (left-In e i)

      -- ---- the tree of vertices

      module _ (left : List ℕ) (left_is : left ≡ edges_left (edges_below space cell) dual) (ends : List (List ℕ)) (E : AreFacetPlaces space 1 (vertices_below space cell) left ends) where
        edge_at : (k : ℕ) → k < length left → (1 ≤ get_or left k 0) × (get_or left k 0 ≤ count space 1)
        edge_at k l = edge_range space hs regular cell f.first f.last (get_or left k 0) (left_edge (get_or left k 0) (subst (In (get_or left k 0)) left_is (at-In left k 0 l)))

        pub two_ends_at : (k : ℕ) → k < length left → length (facets_of space 1 (get_or left k 0)) ≡ 2
        two_ends_at k l = let w = edge_at k l in two_ends_kept space hs regular (get_or left k 0) w.0 w.1

        pub ends_rise_at : (k : ℕ) → k < length left → IsStrictlyIncreasing (facets_of space 1 (get_or left k 0))
        ends_rise_at k l = let w = edge_at k l in (facets_cell space hs 0 (get_or left k 0) w.0 w.1).rises

        pub links_fit : All (IsLink (length (vertices_below space cell))) ends
        links_fit = ends_link space left vs ends vertices_rise E two_ends_at ends_rise_at

        module _ (primal : List Taken) (P : IsTree ends (length (vertices_below space cell)) 1 primal) where
          some : 1 ≤ length (vertices_below space cell)
          some = let k = In-at (some_vertex space cell face hs regular rounds f).1 in omega (arith, k.1)

          root : ℕ
          root = number_at (vertices_below space cell) 1

          root_in : In (number_at (vertices_below space cell) 1) (vertices_below space cell)
          root_in = In-place vs vertices_rise 1 (omega arith) some

          primal_tree : (U : HasTree (first_end space) (last_end space) (number_at (vertices_below space cell) 1) (vertices_below space cell) (filter (λ e. not (holds (map (λ (p : Link). p.upper) dual_tree.0.pairs) e)) (edges_below space cell)))
              × (U.pairs ≡ map (numbers_of (vertices_below space cell) left) (reverse primal))
          primal_tree =
              number_tree vs left ends 1 primal (first_end space) (last_end space) P vertices_rise E.as_many (from_vertex space left vs ends vertices_rise E two_ends_at ends_rise_at) (to_vertex space left vs ends vertices_rise E two_ends_at ends_rise_at)
              (ends_range ends (length vs) links_fit) (holds others) others (λ e o. subst (In e) (sym left_is) (In-left e (holds-In others o))) (λ e i. left-In e (subst (In e) left_is i)) S.vertices_once
              (λ n i. joins-through (first_end space) (last_end space) (λ e o. spans vs es cs (first_end space) (last_end space) (first_side space cell) (last_side space cell) (edges_of space cell) face (number_at vs 1) S dual_tree.0 e (holds-In es o)) (S.joined (number_at vs 1) n root_in i))

          trees : (H : HasTrees (vertices_below space cell) (edges_below space cell) (facets_of space 3 cell) (first_end space) (last_end space) (first_side space cell) (last_side space cell) (edges_of space cell) face (number_at (vertices_below space cell) 1))
              × (H.cells.pairs ≡ dual_tree.0.pairs) × (H.vertices.pairs ≡ primal_tree.0.pairs)
          trees = both_trees vs es cs (first_end space) (last_end space) (first_side space cell) (last_side space cell) (edges_of space cell) face (number_at vs 1) S dual_tree.0 primal_tree.0

          pub search_collapses : collapses space (boundary_less space cell face) (map (disk_pair_at (facets_of space 3 cell) (edges_below space cell)) dual ++ map (vertex_pair_at (vertices_below space cell) left) (reverse primal)) ≡ true
          search_collapses =
              ap (collapses space (boundary_less space cell face)) (sym same) ∙ trees_collapse space cell face hs regular f.first f.last (number_at vs 1) root_in trees.0
            where
              same : onto trees.0.cells.pairs (map vertex_pair trees.0.vertices.pairs) ≡ map (disk_pair_at (facets_of space 3 cell) (edges_below space cell)) dual ++ map (vertex_pair_at (vertices_below space cell) left) (reverse primal)
              same =
                  ap (λ (ps : List Link). onto ps (map vertex_pair trees.0.vertices.pairs)) (trees.1 ∙ pairs_are)
                  ∙ (onto_is cs es (reverse dual) (map vertex_pair trees.0.vertices.pairs)
                  ∙ (ap (λ (ts : List Taken). map (disk_pair_at cs es) ts ++ map vertex_pair trees.0.vertices.pairs) (reverse-reverse dual)
                  ∙ (ap (λ (ps : List Link). map (disk_pair_at cs es) dual ++ map vertex_pair ps) (trees.2 ∙ primal_tree.1) ∙ ap (λ (ps : List Pair). map (disk_pair_at cs es) dual ++ ps) (vertex_pairs vs left (reverse primal)))))
