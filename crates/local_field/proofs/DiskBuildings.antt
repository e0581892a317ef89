-- The boundary of a 2-cell without one edge is built up round its cycle.
use Rattle.std.proofs.Common.{◌≡◌, ◌≢◌, ◌⊎◌, inl, inr, ℕ, suc, ◌<◌, ◌≤◌, List, [], ◌∷◌, ◌++◌, Bool, true, false, cond, map, length, get_or, refl, ap, sym, ◌∙◌, subst, arith}
use Rattle.std.specs.List.{AllByRecursion}
use Rattle.std.specs.List.Sorted.{IsStrictlyIncreasing}
use Rattle.number_lists.specs.Members.{In, here, there}
use Rattle.number_lists.proofs.CallerLemmas.{In-cases, In-map, map-In, In-left, In-right, append-In, In-holds, holds-In, at-In, AreDistinct, more}
use Rattle.face_poset.specs.Poset.{IsSpace, count, facets_of}
use Rattle.face_poset.specs.Below.{cell_at}
use Rattle.order_complex.specs.Chains.{id_of}
use Rattle.regular_check.specs.declared.cycles.Step.{Step}
use Rattle.regular_check.specs.Rules.{IsRegular}
use Rattle.regular_check.specs.Cycle.{cycle, start_of, end_of, GoesRound}
use Rattle.sphere_collapses.proofs.CallerLemmas.{two_ends_kept, distinct-from}
use Rattle.local_field.specs.Towers.{Pairwise}
use Rattle.local_field.specs.Inside.{cells_of, IsAmong, FitsIn, NotAbove, IsBuilding}
use Rattle.local_field.specs.Buildings.{dim_at, is_below, steps_after, steps_before, disk_building}
use Rattle.local_field.proofs.FlagLaw.{dim-id, number-id, facets-cell, facet-range, facet-below}
use Rattle.local_field.proofs.Cells.{under-facet, over-facet, point-id, point-dim, nothing-below, id-same, falls}
use Rattle.local_field.proofs.BuildingLemmas.{front, among-front, among-last}
use Rattle.local_field.proofs.Paths.{cut-at, IsCut, Path, path-opened, path-ends, path-round, turned}

-- the two of a list, in the order of a step
sides : (vs : List ℕ) (b : Bool) (v : ℕ) → length vs ≡ 2 → In v vs → (v ≡ get_or vs (cond b 0 1) 0) ⊎ (v ≡ get_or vs (cond b 1 0) 0)
sides [] b v l i = absurd (omega (arith, l))
sides (x ∷ []) b v l i = absurd (omega (arith, l))
sides (x ∷ y ∷ z ∷ vs) b v l i = absurd (omega (arith, l))
sides (x ∷ y ∷ []) b v l i = elim (In-cases i) [ inl e ↦ first b e | inr j ↦ elim (In-cases j) [ inl e ↦ second b e | inr k ↦ elim k [ ] ] ]
  where
    first : (b : Bool) → v ≡ x → (v ≡ get_or (x ∷ y ∷ []) (cond b 0 1) 0) ⊎ (v ≡ get_or (x ∷ y ∷ []) (cond b 1 0) 0)
    first true e = inl e
    first false e = inr e

    second : (b : Bool) → v ≡ y → (v ≡ get_or (x ∷ y ∷ []) (cond b 0 1) 0) ⊎ (v ≡ get_or (x ∷ y ∷ []) (cond b 1 0) 0)
    second true e = inr e
    second false e = inl e

side-In : (vs : List ℕ) (b : Bool) → length vs ≡ 2 → In (get_or vs (cond b 0 1) 0) vs × In (get_or vs (cond b 1 0) 0) vs
side-In vs true l = (at-In vs 0 0 (omega (arith, l)), at-In vs 1 0 (omega (arith, l)))
side-In vs false l = (at-In vs 1 0 (omega (arith, l)), at-In vs 0 0 (omega (arith, l)))

sides-differ : (vs : List ℕ) (b : Bool) → length vs ≡ 2 → IsStrictlyIncreasing vs → get_or vs (cond b 0 1) 0 ≢ get_or vs (cond b 1 0) 0
sides-differ vs true l r e = omega (arith, e, r 0 (omega (arith, l)))
sides-differ vs false l r e = omega (arith, e, r 0 (omega (arith, l)))

module _ (space : List (List (List ℕ))) (valid : IsSpace space) (regular : IsRegular space) where
  abbrev st : Step → ℕ
  st = start_of space

  abbrev en : Step → ℕ
  en = end_of space

  -- the id of the edge of a step
  abbrev edge_id : Step → ℕ
  edge_id s = id_of space (cell_at 1 s.edge)

  abbrev pair_at : Step → ℕ × ℕ
  pair_at s = (end_of space s, id_of space (cell_at 1 s.edge))

  -- a step along an edge that is there
  abbrev Real : Step → Type 0
  Real s = (1 ≤ s.edge) × (s.edge ≤ count space 1)

  two_ends : (s : Step) → Real s → length (facets_of space 1 s.edge) ≡ 2
  two_ends s r = two_ends_kept space valid regular s.edge r.0 r.1

  start-In : (s : Step) → Real s → In (st s) (facets_of space 1 s.edge)
  start-In s r = (side-In (facets_of space 1 s.edge) s.forward (two_ends s r)).0

  end-In : (s : Step) → Real s → In (en s) (facets_of space 1 s.edge)
  end-In s r = (side-In (facets_of space 1 s.edge) s.forward (two_ends s r)).1

  end-dim : (s : Step) → Real s → dim_at space (en s) ≡ 0
  end-dim s r = let w = facet-range space valid 0 s.edge (en s) r.0 r.1 (end-In s r) in point-dim space valid (en s) w.0 w.1

  edge-dim : (s : Step) → Real s → dim_at space (edge_id s) ≡ 1
  edge-dim s r = dim-id space 1 s.edge (omega arith) r.0 r.1

  vertex-below : (s : Step) (v : ℕ) → Real s → In v (facets_of space 1 s.edge) → is_below space v (edge_id s) ≡ true
  vertex-below s v r i = subst (λ (k : ℕ). is_below space k (edge_id s) ≡ true) (point-id space valid v) (facet-below space valid 0 s.edge v (omega arith) r.0 r.1 i)

  -- a vertex below the edge of a step is one of its ends
  below-ends : (s : Step) (v : ℕ) → Real s → is_below space v (edge_id s) ≡ true → (v ≡ st s) ⊎ (v ≡ en s)
  below-ends s v r h =
      let p = under-facet space valid 0 s.edge v (omega arith) r.0 r.1 h in
      let w = facet-range space valid 0 s.edge p.0 r.0 r.1 p.1 in
      elim p.2 [
        | inl e ↦ sides (facets_of space 1 s.edge) s.forward v (two_ends s r) (subst (λ (k : ℕ). In k (facets_of space 1 s.edge)) (sym (e ∙ point-id space valid p.0)) p.1)
        | inr k ↦ absurd (nothing-below space valid (id_of space (cell_at 0 p.0)) v (dim-id space 0 p.0 (omega arith) w.0 w.1) k)
      ]

  -- ---- the order

  -- what holds of the end and the edge of each step, and of the facet, holds of all cells
  all-cells : (P : ℕ → Type 0) (f : ℕ) (steps : List Step) → ((t : Step) → In t steps → P (en t) × P (edge_id t)) → P f → AllByRecursion P (cells_of (map pair_at steps) f)
  all-cells P f [] h k = (k, tt)
  all-cells P f (s ∷ steps) h k = let r = h s here in (r.0, (r.1, all-cells P f steps (λ t i. h t (there i)) k))

  abbrev Apart : ℕ → ℕ → Type 0
  Apart = NotAbove (is_below space)

  -- nothing but an edge or a 2-cell is above a vertex
  over-point : (v c : ℕ) → dim_at space v ≡ 0 → c ≢ v → Apart v c
  over-point v c e q = (q, nothing-below space valid v c e)

  other-dim : (v c n : ℕ) → dim_at space v ≡ 0 → dim_at space c ≡ suc n → c ≢ v
  other-dim v c n d e q = omega (arith, d, e, ap (dim_at space) q)

  ordered : (f : ℕ) (e : ℕ) (steps : List Step) (a b : ℕ) → Path st en a steps b → ((t : Step) → In t steps → Real t) → 1 ≤ e → e ≤ count space 1 → f ≡ id_of space (cell_at 1 e)
      → AreDistinct (a ∷ map en steps) → AreDistinct (map (λ (t : Step). t.edge) steps ++ e ∷ []) → Pairwise Apart (cells_of (map pair_at steps) f)
  ordered f e [] a b p r low high q d k = (tt, tt)
  ordered f e (s ∷ steps) a b p r low high q (more n (more m d)) (more l k) =
      let rs : Real s = r s here in
      let point : dim_at space (en s) ≡ 0 = end-dim s rs in
      let edge : dim_at space (edge_id s) ≡ 1 = edge-dim s rs in
      let facet : dim_at space f ≡ 1 = ap (dim_at space) q ∙ dim-id space 1 e (omega arith) low high in
      let end_later : (t : Step) → In t steps → en t ≢ en s = λ t i g. m (subst (λ (x : ℕ). In x (map en steps)) g (In-map en i)) in
      let start_later : (t : Step) → In t steps → en t ≢ a = λ t i g. n (there (subst (λ (x : ℕ). In x (map en steps)) g (In-map en i))) in
      let edge_later : (x : ℕ) → 1 ≤ x → x ≤ count space 1 → In x (map (λ (t : Step). t.edge) steps ++ e ∷ []) → id_of space (cell_at 1 x) ≢ edge_id s =
      λ x xl xh i g. l (subst (λ (y : ℕ). In y (map (λ (t : Step). t.edge) steps ++ e ∷ [])) (id-same space 1 x 1 s.edge (omega arith) xl xh (omega arith) rs.0 rs.1 g).1 i) in
      let high_later : (c : ℕ) → dim_at space c ≡ 1 → c ≢ edge_id s → Apart (edge_id s) c = λ c g z. (z, λ h. omega (arith, g, edge, falls_at c (edge_id s) h)) in (
        (
          (other-dim (en s) (edge_id s) 0 point edge, nothing-below space valid (en s) (edge_id s) point),
          all-cells (Apart (en s)) f steps
              (λ t i. (over-point (en s) (en t) point (end_later t i), over-point (en s) (edge_id t) point (other-dim (en s) (edge_id t) 0 point (edge-dim t (r t (there i))))))
              (over-point (en s) f point (other-dim (en s) f 0 point facet)),
        ),
        (
          all-cells (Apart (edge_id s)) f steps
              (λ t i.
              let rt : Real t = r t (there i) in (
                ((λ g. other-dim (en t) (edge_id s) 0 (end-dim t rt) edge (sym g)), (λ h. elim (below-ends s (en t) rs h) [ inl g ↦ start_later t i (g ∙ p.0) | inr g ↦ end_later t i g ])),
                high_later (edge_id t) (edge-dim t rt) (edge_later t.edge rt.0 rt.1 (In-left (e ∷ []) (In-map (λ (t : Step). t.edge) i))),
              ))
              (high_later f facet (λ g. edge_later e low high (In-right (map (λ (t : Step). t.edge) steps) here) (sym q ∙ g))),
          ordered f e steps (en s) b p.1 (λ t i. r t (there i)) low high q (more m d) k,
        ),
      )
    where
      falls_at : (x c : ℕ) → is_below space x c ≡ true → dim_at space x < dim_at space c
      falls_at = falls space valid

  -- ---- round a 2-cell

  module _ (n m : ℕ) (low : 1 ≤ n) (high : n ≤ count space 2) (round : GoesRound space (facets_of space 2 n) (cycle space n)) (edge_in : In m (facets_of space 2 n)) where
    abbrev steps : List Step
    steps = cycle space n

    abbrev g : ℕ
    g = id_of space (cell_at 2 n)

    abbrev f : ℕ
    f = id_of space (cell_at 1 m)

    abbrev along : List Step
    along = steps_after m steps ++ steps_before m steps

    cut : IsCut m steps
    cut = cut-at m steps (holds-In (map (λ (s : Step). s.edge) steps) (round.edges_are m ∙ In-holds edge_in))

    real : (s : Step) → In s.edge (facets_of space 2 n) → Real s
    real s i = facet-range space valid 1 n s.edge low high i

    on_edge : (s : Step) → In s steps → In s.edge (facets_of space 2 n)
    on_edge s i = holds-In (facets_of space 2 n) (sym (round.edges_are s.edge) ∙ In-holds (In-map (λ (s : Step). s.edge) i))

    cut-In : In cut.at steps
    cut-In = subst (In cut.at) (sym cut.is) (In-right (steps_before m steps) here)

    along-In : (t : Step) → In t along → In t steps
    along-In t i =
        subst (In t) (sym cut.is)
        (elim (append-In (steps_after m steps) (steps_before m steps) i) [ inl j ↦ In-right (steps_before m steps) (there j) | inr j ↦ In-left (cut.at ∷ steps_after m steps) j ])

    -- each step is the one along the edge, or one of the others
    step-cases : (t : Step) → In t steps → (t ≡ cut.at) ⊎ In t along
    step-cases t i = elim (append-In (steps_before m steps) (cut.at ∷ steps_after m steps) (subst (In t) cut.is i)) [
      | inl j ↦ inr (In-right (steps_after m steps) j)
      | inr j ↦ elim (In-cases j) [ inl e ↦ inl e | inr k ↦ inr (In-left (steps_before m steps) k) ]
    ]

    path : Path st en (en cut.at) along (st cut.at)
    path =
        let r = path-round st en steps round.closes in
        path-opened st en r.0 (steps_before m steps) cut.at (steps_after m steps) (subst (λ (ss : List Step). Path st en r.0 ss r.0) cut.is r.1)

    ends : en cut.at ∷ map en along ≡ map st along ++ st cut.at ∷ []
    ends = path-ends st en (en cut.at) (st cut.at) along path

    vertices_differ : AreDistinct (en cut.at ∷ map en along)
    vertices_differ =
        subst AreDistinct (sym ends)
        (turned st (steps_before m steps) cut.at (steps_after m steps) (subst (λ (ss : List Step). AreDistinct (map st ss)) cut.is (distinct-from (map st steps) round.vertices_once)))

    edges_differ : AreDistinct (map (λ (t : Step). t.edge) along ++ m ∷ [])
    edges_differ =
        subst (λ (k : ℕ). AreDistinct (map (λ (t : Step). t.edge) along ++ k ∷ [])) cut.along
        (turned (λ (t : Step). t.edge) (steps_before m steps) cut.at (steps_after m steps) (subst (λ (ss : List Step). AreDistinct (map (λ (t : Step). t.edge) ss)) cut.is (distinct-from (map (λ (t : Step). t.edge) steps) round.edges_once)))

    cut-real : Real cut.at
    cut-real = real cut.at (on_edge cut.at cut-In)

    along-real : (t : Step) → In t along → Real t
    along-real t i = real t (on_edge t (along-In t i))

    -- the root
    root-is : get_or (map st along) 0 0 ≡ en cut.at
    root-is = by along path
      where
        by : (ss : List Step) → Path st en (en cut.at) ss (st cut.at) → get_or (map st ss) 0 0 ≡ en cut.at
        by [] p = absurd (sides-differ (facets_of space 1 cut.at.edge) cut.at.forward (two_ends cut.at cut-real) (facets-cell space valid 0 cut.at.edge cut-real.0 cut-real.1).rises (sym p))
        by (s ∷ ss) p = p.0

    edge_below : (s : Step) → In s steps → is_below space (edge_id s) g ≡ true
    edge_below s i = facet-below space valid 1 n s.edge (omega arith) low high (on_edge s i)

    end_below : (s : Step) → In s steps → is_below space (en s) g ≡ true
    end_below s i =
        let j = on_edge s i in
        over-facet space valid 1 n s.edge (en s) (omega arith) low high j (vertex-below s (en s) (real s j) (end-In s (real s j)))

    -- a vertex of a step is the root or the end of one of the others
    vertex_among : (v : ℕ) → In v (en cut.at ∷ map en along) → (v ≡ en cut.at) ⊎ IsAmong v (map pair_at along) f
    vertex_among v i = elim (In-cases i) [ inl e ↦ inl e | inr j ↦ inr (among-front v (map pair_at along) f (in_front v along j)) ]
      where
        in_front : (v : ℕ) (ss : List Step) → In v (map en ss) → In v (front (map pair_at ss))
        in_front v [] i = elim i [ ]
        in_front v (s ∷ ss) i = elim (In-cases i) [ inl e ↦ subst (λ (k : ℕ). In k (front (map pair_at (s ∷ ss)))) (sym e) here | inr j ↦ there (there (in_front v ss j)) ]

    edge_among : (t : Step) (ss : List Step) → In t ss → In (edge_id t) (front (map pair_at ss))
    edge_among t [] i = elim i [ ]
    edge_among t (s ∷ ss) i = elim (In-cases i) [ inl e ↦ subst (λ (k : Step). In (edge_id k) (front (map pair_at (s ∷ ss)))) (sym e) (there here) | inr j ↦ there (there (edge_among t ss j)) ]

    start_in : (t : Step) → In t steps → In (st t) (en cut.at ∷ map en along)
    start_in t i =
        subst (In (st t)) (sym ends)
        (elim (step-cases t i) [ inl e ↦ subst (λ (k : Step). In (st k) (map st along ++ st cut.at ∷ [])) (sym e) (In-right (map st along) here) | inr j ↦ In-left (st cut.at ∷ []) (In-map st j) ])

    end_in : (t : Step) → In t steps → In (en t) (en cut.at ∷ map en along)
    end_in t i = elim (step-cases t i) [ inl e ↦ subst (λ (k : Step). In (en k) (en cut.at ∷ map en along)) (sym e) here | inr j ↦ there (In-map en j) ]

    face_among : (c : ℕ) → is_below space c g ≡ true → (c ≡ en cut.at) ⊎ IsAmong c (map pair_at along) f
    face_among c h =
        let p = under-facet space valid 1 n c (omega arith) low high h in
        let t = map-In (λ (s : Step). s.edge) steps (holds-In (map (λ (s : Step). s.edge) steps) (round.edges_are p.0 ∙ In-holds p.1)) in
        by_kind t.0 t.1 p.2 t.2
      where
        by_kind : {e : ℕ} (t : Step) → In t steps → (c ≡ id_of space (cell_at 1 e)) ⊎ (is_below space c (id_of space (cell_at 1 e)) ≡ true) → e ≡ t.edge → (c ≡ en cut.at) ⊎ IsAmong c (map pair_at along) f
        by_kind t i (inl q) s =
            let same : c ≡ edge_id t = q ∙ ap (λ (k : ℕ). id_of space (cell_at 1 k)) s in
            inr (elim (step-cases t i) [
              | inl z ↦ among-last c (map pair_at along) f (same ∙ (ap edge_id z ∙ ap (λ (k : ℕ). id_of space (cell_at 1 k)) cut.along))
              | inr j ↦ among-front c (map pair_at along) f (subst (λ (k : ℕ). In k (front (map pair_at along))) (sym same) (edge_among t along j))
            ])
        by_kind t i (inr q) s =
            let below : is_below space c (edge_id t) ≡ true = subst (λ (k : ℕ). is_below space c (id_of space (cell_at 1 k)) ≡ true) s q in
            elim (below-ends t c (real t (on_edge t i)) below) [
              | inl z ↦ vertex_among c (subst (λ (k : ℕ). In k (en cut.at ∷ map en along)) (sym z) (start_in t i))
              | inr z ↦ vertex_among c (subst (λ (k : ℕ). In k (en cut.at ∷ map en along)) (sym z) (end_in t i))
            ]

    fits : (ss : List Step) → ((t : Step) → In t ss → In t steps) → AllByRecursion (FitsIn (is_below space) (dim_at space) g) (map pair_at ss)
    fits [] h = tt
    fits (s ∷ ss) h =
        let i = h s here in
        let r = real s (on_edge s i) in
        ((end_below s i, edge_below s i, vertex-below s (en s) r (end-In s r), edge-dim s r ∙ sym (ap suc (end-dim s r))), fits ss (λ t j. h t (there j)))

    built : IsBuilding (is_below space) (dim_at space) g f (record { root = en cut.at; pairs = map pair_at along })
    built =
        let point : dim_at space (en cut.at) ≡ 0 = end-dim cut.at cut-real in
        let range = facet-range space valid 1 n m low high edge_in in
        let facet : dim_at space f ≡ 1 = dim-id space 1 m (omega arith) range.0 range.1 in
        let unlike : (c : ℕ) → dim_at space c ≡ 1 → c ≢ en cut.at = λ c d. other-dim (en cut.at) c 0 point d in
        record {
          all = face_among;
          point = point;
          rootless = all-cells (λ c. c ≢ en cut.at) f along (λ t i. (first_apart vertices_differ t i, unlike (edge_id t) (edge-dim t (along-real t i)))) (unlike f facet);
          rooted = end_below cut.at cut-In;
          other = λ e. unlike f facet (sym e);
          fit = fits along along-In;
          order = ordered f m along (en cut.at) (st cut.at) path along-real range.0 range.1 refl vertices_differ edges_differ;
        }
      where
        first_apart : AreDistinct (en cut.at ∷ map en along) → (t : Step) → In t along → en t ≢ en cut.at
        first_apart (more n d) t i e = n (subst (λ (k : ℕ). In k (map en along)) e (In-map en i))

    pub disk-built : IsBuilding (is_below space) (dim_at space) (id_of space (cell_at 2 n)) (id_of space (cell_at 1 m)) (disk_building space n (id_of space (cell_at 1 m)))
    disk-built =
        let range = facet-range space valid 1 n m low high edge_in in
        subst (λ (e : ℕ). IsBuilding (is_below space) (dim_at space) g f (record { root = get_or (map st (steps_after e steps ++ steps_before e steps)) 0 0; pairs = map pair_at (steps_after e steps ++ steps_before e steps) })) (sym (number-id space 1 m (omega arith) range.0 range.1))
        (subst (λ (r : ℕ). IsBuilding (is_below space) (dim_at space) g f (record { root = r; pairs = map pair_at along })) (sym root-is) built)
