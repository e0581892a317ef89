-- The boundary of a 3-cell of a regular space is a sphere, as the laws on trees have it.
use Rattle.std.proofs.Common.{◌≡◌, ◌⊎◌, inl, inr, ℕ, zero, suc, ◌<◌, ◌≤◌, List, [], ◌∷◌, Bool, true, false, cond, not, ◌||◌, eqb, filter, length, get_or, refl, ap, sym, ◌∙◌, subst, arith}
use Rattle.std.specs.List.{list_all, list_any}
use Rattle.std.specs.List.Sorted.{IsStrictlyIncreasing}
use Rattle.std.proofs.lemmas.Bool.{eqb-true, eq-eqb, ne_eqb, and_from, or_left, or_right}
use Rattle.std.proofs.lemmas.List.Kept.{IsStrictlyIncreasing-filter}
use Rattle.number_lists.specs.Words.{upto, holds}
use Rattle.number_lists.specs.Reach.{reaches, Reaches, at_start, on}
use Rattle.number_lists.specs.Members.{In}
use Rattle.number_lists.proofs.CallerLemmas.{any-some, all-In, In-filter, filter-In, In-inside, holds-In, In-holds, In-at, at-In, increasing-upto, increasing_head, increasing_tail, reaches_is}
use Rattle.face_poset.specs.Poset.{IsSpace, count, facets_of}
use Rattle.regular_check.specs.Rules.{IsRegular, sharing, meet}
use Rattle.regular_check.specs.Cycle.{CyclesGoRound}
use Rattle.pair_laws.specs.Joins.{Joins, stay, forth, back}
use Rattle.pair_laws.specs.Tree.{distinct}
use Rattle.pair_laws.specs.Sphere.{IsSphere}
use Rattle.pair_laws.proofs.CallerLemmas.{joins-trans, joins-sym}
use Rattle.sphere_collapses.specs.Spheres.{edges_below, vertices_below, first_end, last_end, first_side, last_side, edges_of}
use Rattle.sphere_collapses.proofs.Kept.{facets_cell, facet_in, first_facet, all_facets-In, In-all_facets, two_ends_kept, SolidKept, solid_kept}
use Rattle.sphere_collapses.proofs.FaceCounts.{HasFaces, has_faces}
use Rattle.sphere_collapses.proofs.Rounds.{round, opens, from_base}

-- no number of an increasing list comes twice
pub rising-distinct : (xs : List ℕ) → IsStrictlyIncreasing xs → distinct xs ≡ true
rising-distinct [] h = refl
rising-distinct (x ∷ xs) h = and_from (not (holds xs x)) (distinct xs) (by_test (holds xs x) refl) (rising-distinct xs (increasing_tail x xs h))
  where
    by_test : (b : Bool) → holds xs x ≡ b → not b ≡ true
    by_test false e = refl
    by_test true e = let k = In-at (holds-In xs e) in absurd (omega (arith, increasing_head x xs h k.0 0 k.1, k.2))

-- one of two items
one_of_two : (xs : List ℕ) (c : ℕ) → length xs ≡ 2 → In c xs → (get_or xs 0 0 ≡ c) ⊎ (get_or xs 1 0 ≡ c)
one_of_two xs c two i = let k = In-at i in by_place k.0 (omega (arith, k.1, two)) k.2
  where
    by_place : (k : ℕ) → k < 2 → get_or xs k 0 ≡ c → (get_or xs 0 0 ≡ c) ⊎ (get_or xs 1 0 ≡ c)
    by_place zero l e = inl e
    by_place (suc zero) l e = inr e
    by_place (suc (suc k)) l e = absurd (omega arith)

module _ (space : List (List (List ℕ))) (hs : IsSpace space) (regular : IsRegular space) where
  pub ends_in : (e : ℕ) → 1 ≤ e → e ≤ count space 1 → In (first_end space e) (facets_of space 1 e) × In (last_end space e) (facets_of space 1 e)
  ends_in e low high =
      let two : length (facets_of space 1 e) ≡ 2 = two_ends_kept space hs regular e low high in
      (at-In (facets_of space 1 e) 0 0 (omega (arith, two)), at-In (facets_of space 1 e) 1 0 (omega (arith, two)))

  pub end_is : (e v : ℕ) → 1 ≤ e → e ≤ count space 1 → In v (facets_of space 1 e) → (first_end space e ≡ v) ⊎ (last_end space e ≡ v)
  end_is e v low high i = one_of_two (facets_of space 1 e) v (two_ends_kept space hs regular e low high) i

  module _ (cell : ℕ) (low : 1 ≤ cell) (high : cell ≤ count space 3) where
    abbrev disks : List ℕ
    disks = facets_of space 3 cell

    pub disk_range : (c : ℕ) → In c (facets_of space 3 cell) → (1 ≤ c) × (c ≤ count space 2)
    disk_range c i = facet_in space hs 2 cell c low high i

    pub edge_disk : (e : ℕ) → In e (edges_below space cell) → (c : ℕ) × In c (facets_of space 3 cell) × In e (facets_of space 2 c)
    edge_disk e i = all_facets-In space hs 1 (facets_of space 3 cell) e i

    pub edge_range : (e : ℕ) → In e (edges_below space cell) → (1 ≤ e) × (e ≤ count space 1)
    edge_range e i = let r = edge_disk e i in let w = disk_range r.0 r.1 in facet_in space hs 1 r.0 e w.0 w.1 r.2

    pub disk_edge : (c e : ℕ) → In c (facets_of space 3 cell) → In e (facets_of space 2 c) → In e (edges_below space cell)
    disk_edge c e i j = let w = disk_range c i in In-all_facets space hs 1 (facets_of space 3 cell) c e i w.0 w.1 j

    pub vertex_edge : (v : ℕ) → In v (vertices_below space cell) → (e : ℕ) × In e (edges_below space cell) × In v (facets_of space 1 e)
    vertex_edge v i = all_facets-In space hs 0 (edges_below space cell) v i

    pub edge_vertex : (e v : ℕ) → In e (edges_below space cell) → In v (facets_of space 1 e) → In v (vertices_below space cell)
    edge_vertex e v i j = let w = edge_range e i in In-all_facets space hs 0 (edges_below space cell) e v i w.0 w.1 j

    pub edge_ends : (e : ℕ) → In e (edges_below space cell) → In (first_end space e) (vertices_below space cell) × In (last_end space e) (vertices_below space cell)
    edge_ends e i = let w = edge_range e i in let k = ends_in e w.0 w.1 in (edge_vertex e (first_end space e) i k.0, edge_vertex e (last_end space e) i k.1)

    -- ---- the two sides of an edge

    kept : SolidKept space hs regular cell
    kept = solid_kept space hs regular cell low high

    abbrev has : ℕ → ℕ → Bool
    has e c = holds (facets_of space 2 c) e

    pub two_sides : (e : ℕ) → In e (edges_below space cell) → length (sharing space 2 (facets_of space 3 cell) e) ≡ 2
    two_sides e i =
        let r = edge_disk e i in
        eqb-true (length (sharing space 2 disks e)) 2
        (all-In (λ f. eqb (length (sharing space 2 (facets_of space 3 cell) f)) 2)
        (all-In (λ c. list_all (λ f. eqb (length (sharing space 2 (facets_of space 3 cell) f)) 2) (facets_of space 2 c)) kept.twice r.1) r.2)

    pub side_is : (c e : ℕ) → In c (facets_of space 3 cell) → In e (facets_of space 2 c) → (first_side space cell e ≡ c) ⊎ (last_side space cell e ≡ c)
    side_is c e i j = one_of_two (sharing space 2 disks e) c (two_sides e (disk_edge c e i j)) (In-filter (has e) i (In-holds j))

    pub record IsSide (e c : ℕ) : Type 0 where
      pub disk : In c (facets_of space 3 cell)
      pub edge : In e (facets_of space 2 c)

    side_at : (e k : ℕ) → In e (edges_below space cell) → k < 2 → IsSide e (get_or (sharing space 2 (facets_of space 3 cell) e) k 0)
    side_at e k i l =
        let xs : List ℕ = sharing space 2 disks e in
        let c : ℕ = get_or xs k 0 in
        let j : In c xs = at-In xs k 0 (omega (arith, l, two_sides e i)) in
        record { disk = In-inside (has e) disks j; edge = holds-In (facets_of space 2 c) (filter-In (has e) disks j) }

    pub first_is : (e : ℕ) → In e (edges_below space cell) → IsSide e (first_side space cell e)
    first_is e i = side_at e 0 i (omega arith)

    pub last_is : (e : ℕ) → In e (edges_below space cell) → IsSide e (last_side space cell e)
    last_is e i = side_at e 1 i (omega arith)

    pub edges_are : (c : ℕ) → In c (facets_of space 3 cell) → edges_of space cell c ≡ facets_of space 2 c
    edges_are c i = ap (λ (b : Bool). cond b (facets_of space 2 c) []) (In-holds i)

    pub edges_of-In : (c e : ℕ) → In e (edges_of space cell c) → In c (facets_of space 3 cell) × In e (facets_of space 2 c)
    edges_of-In c e i = by_test (holds (facets_of space 3 cell) c) refl i
      where
        by_test : (b : Bool) → holds (facets_of space 3 cell) c ≡ b → In e (cond b (facets_of space 2 c) []) → In c (facets_of space 3 cell) × In e (facets_of space 2 c)
        by_test true e i = (holds-In (facets_of space 3 cell) e, i)
        by_test false e i = elim i [ ]

    -- ---- joined

    abbrev all_edges : ℕ → Bool
    all_edges = holds (edges_below space cell)

    step_joins : (a b : ℕ) → In a (facets_of space 3 cell) → In b (facets_of space 3 cell) → meet space 2 a b ≡ true → Joins (first_side space cell) (last_side space cell) (holds (edges_below space cell)) a b
    step_joins a b i j t =
        let s = any-some (λ f. holds (facets_of space 2 b) f) (facets_of space 2 a) t in
        let e : ℕ = s.0 in
        let o : all_edges e ≡ true = In-holds (disk_edge a e i s.1) in
        by_sides e o (side_is a e i s.1) (side_is b e j (holds-In (facets_of space 2 b) s.2))
      where
        by_sides : (e : ℕ) → holds (edges_below space cell) e ≡ true → (first_side space cell e ≡ a) ⊎ (last_side space cell e ≡ a) → (first_side space cell e ≡ b) ⊎ (last_side space cell e ≡ b)
            → Joins (first_side space cell) (last_side space cell) (holds (edges_below space cell)) a b
        by_sides e o (inl p) (inl q) = subst (λ (x : ℕ). Joins (first_side space cell) (last_side space cell) (holds (edges_below space cell)) a x) (sym p ∙ q) stay
        by_sides e o (inr p) (inr q) = subst (λ (x : ℕ). Joins (first_side space cell) (last_side space cell) (holds (edges_below space cell)) a x) (sym p ∙ q) stay
        by_sides e o (inl p) (inr q) =
            subst (λ (x : ℕ). Joins (first_side space cell) (last_side space cell) (holds (edges_below space cell)) x b) p
            (subst (λ (x : ℕ). Joins (first_side space cell) (last_side space cell) (holds (edges_below space cell)) (first_side space cell e) x) q (forth e o stay))
        by_sides e o (inr p) (inl q) =
            subst (λ (x : ℕ). Joins (first_side space cell) (last_side space cell) (holds (edges_below space cell)) x b) p
            (subst (λ (x : ℕ). Joins (first_side space cell) (last_side space cell) (holds (edges_below space cell)) (last_side space cell e) x) q (back e o stay))

    path_joins : {a b : ℕ} → In a (facets_of space 3 cell) → Reaches (meet space 2) (facets_of space 3 cell) a b
        → In b (facets_of space 3 cell) × Joins (first_side space cell) (last_side space cell) (holds (edges_below space cell)) a b
    path_joins i at_start = (i, stay)
    path_joins i (on {y} {z} q e g) =
        let r = path_joins i q in
        let j : In z disks = holds-In disks g in
        (j, joins-trans (first_side space cell) (last_side space cell) r.1 (step_joins y z r.0 j e))

    pub together : (c d : ℕ) → In c (facets_of space 3 cell) → In d (facets_of space 3 cell) → Joins (first_side space cell) (last_side space cell) (holds (edges_below space cell)) c d
    together c d i j =
        let a : ℕ = get_or disks 0 0 in
        let k : In a disks = first_facet space hs 2 cell low high in
        let path : (x : ℕ) → In x disks → Joins (first_side space cell) (last_side space cell) (holds (edges_below space cell)) a x =
        λ x m. (path_joins k ((reaches_is (meet space 2) disks a x (In-holds k)).0 (all-In (reaches (meet space 2) disks a) kept.connected_too m))).1 in
        joins-trans (first_side space cell) (last_side space cell) (joins-sym (first_side space cell) (last_side space cell) (path c i)) (path d j)

    module _ (rounds : CyclesGoRound) where
      -- from where a cycle begins to a vertex of the 2-cell
      to_vertex : (c e v : ℕ) (i : In c (facets_of space 3 cell)) → In e (facets_of space 2 c) → In v (facets_of space 1 e)
          → Joins (first_end space) (last_end space) (holds (edges_below space cell)) ((round space c hs regular rounds ((disk_range c i).0) ((disk_range c i).1)).0) v
      to_vertex c e v i j k =
          let w = disk_range c i in
          let p = from_base space c hs regular rounds w.0 w.1 e j (λ g m. In-holds (disk_edge c g i m)) in
          let o : all_edges e ≡ true = In-holds (disk_edge c e i j) in
          let x = edge_range e (disk_edge c e i j) in
          by_end e v o (end_is e v x.0 x.1 k) p
        where
          by_end : (e v : ℕ) → holds (edges_below space cell) e ≡ true → (first_end space e ≡ v) ⊎ (last_end space e ≡ v) → {u : ℕ} → Joins (first_end space) (last_end space) (holds (edges_below space cell)) u (first_end space e) → Joins (first_end space) (last_end space) (holds (edges_below space cell)) u v
          by_end e v o (inl q) {u} p = subst (λ (x : ℕ). Joins (first_end space) (last_end space) (holds (edges_below space cell)) u x) q p
          by_end e v o (inr q) {u} p = subst (λ (x : ℕ). Joins (first_end space) (last_end space) (holds (edges_below space cell)) u x) q (joins-trans (first_end space) (last_end space) p (forth e o stay))

      -- the same for some 2-cell: it has a vertex to which all its vertices are joined
      Based : ℕ → Type 0
      Based c = (u : ℕ) × ((e v : ℕ) → In e (facets_of space 2 c) → In v (facets_of space 1 e) → Joins (first_end space) (last_end space) (holds (edges_below space cell)) u v)

      based : (c : ℕ) → In c (facets_of space 3 cell) → Based c
      unfolding Based
      based c i = ((round space c hs regular rounds ((disk_range c i).0) ((disk_range c i).1)).0, λ e v j k. to_vertex c e v i j k)

      -- vertices of 2-cells that are joined
      Vertices : ℕ → ℕ → Type 0
      Vertices c v = (e : ℕ) × In e (facets_of space 2 c) × In v (facets_of space 1 e)

      joined_over : {c d : ℕ} → Joins (first_side space cell) (last_side space cell) (holds (edges_below space cell)) c d → In c (facets_of space 3 cell) → In d (facets_of space 3 cell)
          → (v w : ℕ) → Vertices c v → Vertices d w → Joins (first_end space) (last_end space) (holds (edges_below space cell)) v w
      unfolding Based Vertices
      joined_over {c} stay i j v w a b =
          let u = based c i in
          joins-trans (first_end space) (last_end space) (joins-sym (first_end space) (last_end space) (u.1 a.0 v a.1 a.2)) (u.1 b.0 w b.1 b.2)
      joined_over (forth e o h) i j v w a b =
          let m : In e (edges_below space cell) = holds-In (edges_below space cell) o in
          let p = first_is e m in
          let q = last_is e m in
          let r = edge_range e m in
          let x = (ends_in e r.0 r.1).0 in
          let u = based (first_side space cell e) i in
          joins-trans (first_end space) (last_end space)
          (joins-trans (first_end space) (last_end space) (joins-sym (first_end space) (last_end space) (u.1 a.0 v a.1 a.2)) (u.1 e (first_end space e) p.edge x))
          (joined_over h q.disk j (first_end space e) w (e, q.edge, x) b)
      joined_over (back e o h) i j v w a b =
          let m : In e (edges_below space cell) = holds-In (edges_below space cell) o in
          let p = last_is e m in
          let q = first_is e m in
          let r = edge_range e m in
          let x = (ends_in e r.0 r.1).0 in
          let u = based (last_side space cell e) i in
          joins-trans (first_end space) (last_end space)
          (joins-trans (first_end space) (last_end space) (joins-sym (first_end space) (last_end space) (u.1 a.0 v a.1 a.2)) (u.1 e (first_end space e) p.edge x))
          (joined_over h q.disk j (first_end space e) w (e, q.edge, x) b)

      pub joined : (v w : ℕ) → In v (vertices_below space cell) → In w (vertices_below space cell) → Joins (first_end space) (last_end space) (holds (edges_below space cell)) v w
      unfolding Vertices
      joined v w i j =
          let a = vertex_edge v i in
          let b = vertex_edge w j in
          let c = edge_disk a.0 a.1 in
          let d = edge_disk b.0 b.1 in
          joined_over (together c.0 d.0 c.1 d.1) c.1 d.1 v w (a.0, c.2, a.2) (b.0, d.2, b.2)

      opens_there : (c e : ℕ) → In c (facets_of space 3 cell) → In e (edges_of space cell c) → Joins (first_end space) (last_end space) (λ g. holds (filter (λ g. not (eqb g e)) (edges_of space cell c)) g) (first_end space e) (last_end space e)
      opens_there c e i j =
          let w = disk_range c i in
          opens space c hs regular rounds w.0 w.1 e (edges_of-In c e j).1
          (λ g k n.
          let m : In g (edges_of space cell c) = subst (λ (xs : List ℕ). In g xs) (sym (edges_are c i)) k in
          In-holds (In-filter (λ g. not (eqb g e)) m (ap not (ne_eqb g e n))))

      pub is_sphere : IsSphere (vertices_below space cell) (edges_below space cell) (facets_of space 3 cell) (first_end space) (last_end space) (first_side space cell) (last_side space cell) (edges_of space cell)
      is_sphere =
          let faces : HasFaces space cell hs low high = has_faces space cell hs low high in
          record {
            vertices_once = rising-distinct (vertices_below space cell) (IsStrictlyIncreasing-filter (λ f. list_any (λ c. holds (facets_of space 1 c) f) (edges_below space cell)) (upto (count space 0)) (increasing-upto (count space 0)));
            edges_once = rising-distinct (edges_below space cell) (IsStrictlyIncreasing-filter (λ f. list_any (λ c. holds (facets_of space 2 c) f) (facets_of space 3 cell)) (upto (count space 1)) (increasing-upto (count space 1)));
            cells_once = rising-distinct disks ((facets_cell space hs 2 cell low high).rises);
            ends = edge_ends;
            sides = λ e i. ((first_is e i).disk, (last_is e i).disk);
            two = λ c e i. (let r = edges_of-In c e i in either_side c e (side_is c e r.0 r.1));
            has = λ e i. (
              subst (λ (xs : List ℕ). In e xs) (sym (edges_are (first_side space cell e) ((first_is e i).disk))) ((first_is e i).edge),
              subst (λ (xs : List ℕ). In e xs) (sym (edges_are (last_side space cell e) ((last_is e i).disk))) ((last_is e i).edge),
            );
            edges = λ c e i j. disk_edge c e i ((edges_of-In c e j).1);
            opens = opens_there;
            together = together;
            joined = joined;
            number = omega (arith, kept.euler, faces.vertices, faces.edges, faces.disks_too);
          }
        where
          either_side : (c e : ℕ) → (first_side space cell e ≡ c) ⊎ (last_side space cell e ≡ c) → (eqb (first_side space cell e) c || eqb (last_side space cell e) c) ≡ true
          either_side c e (inl p) = or_left (eqb (first_side space cell e) c) (eqb (last_side space cell e) c) (eq-eqb (first_side space cell e) c p)
          either_side c e (inr p) = or_right (eqb (first_side space cell e) c) (eqb (last_side space cell e) c) (eq-eqb (last_side space cell e) c p)
