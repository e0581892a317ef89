-- Each closed cell has a vertex to which its vertices are joined, and over which each sheet has its choice: by dimension.
use Rattle.std.proofs.Common.{◌≡◌, ◌≢◌, inl, inr, ◌⊎◌, ℕ, zero, suc, List, [], ◌∷◌, ◌++◌, map, drop, take, eqb, Bool, true, false, cond, get_or, refl, ap, sym, ◌∙◌, subst, arith, AllPairs}
use Rattle.std.proofs.lemmas.Bool.{eq-eqb, ne_eqb}
use Rattle.number_lists.specs.Members.{In, here}
use Rattle.number_lists.specs.Words.{holds}
use Rattle.number_lists.proofs.CallerLemmas.{In-cases, In-Contains, holds-In, In-holds, In-at, In-map, map-In, map_agree, append-In, In-left, In-right}
use Rattle.face_poset.specs.Poset.{IsSpace, count, facets_of}
use Rattle.face_poset.specs.Below.{IsBelow, itself, facet}
use Rattle.regular_check.specs.declared.cycles.Step.{Step}
use Rattle.regular_check.specs.Rules.{IsRegular}
use Rattle.regular_check.specs.Cycle.{start_of, end_of, cycle, CyclesGoRound, GoesRound}
use Rattle.pair_laws.specs.Joins.{Joins, stay, forth, back, Chain, none, next, start, finish, Flat}
use Rattle.pair_laws.specs.Joins as joins
use Rattle.pair_laws.specs.Tree.{distinct}
use Rattle.pair_laws.specs.Sections.{sheets, IsSection}
use Rattle.pair_laws.specs.Round.{HasPathTree}
use Rattle.pair_laws.proofs.CallerLemmas.{joins-trans, chain-append, grown_flat, flat_forced, cycle_tree, ends_taken}
use Rattle.sphere_collapses.specs.Spheres.{first_end, last_end}
use Rattle.sheet_laws.specs.Permutations.{InRange, at}
use Rattle.sheet_laws.specs.Labellings.{label}
use Rattle.sheet_laws.proofs.CallerLemmas.{ends-of, AreWithin, closes-at, distinct-cons}
use Rattle.cover_space.specs.Total.{below}
use Rattle.cover_space.proofs.Inside.{facet_in, first_facet, below-range, below-dim, below-top, below-facet, In-below}
use Rattle.cover_space.proofs.Labelled as labelled
use Rattle.cover_space.proofs.Labelled.{IsLabelled, in_range, range-true, range-from, are_inverse, walk-is, forth-is}
use Rattle.cover_space.proofs.Chained.{IsOpened, round-opened, chain-joins, tree-joins, start-is}
use Rattle.cover_space.proofs.Joining.{HasFlat, HasRoot}

distinct-pairs : (xs : List ℕ) → AllPairs (λ a b. a ≢ b) xs → distinct xs ≡ true
distinct-pairs [] h = refl
distinct-pairs (x ∷ xs) h =
    distinct-cons x xs (λ i. (let r = In-at i in h zero (suc r.0) 0 (omega arith) (omega (arith, r.1)) (sym r.2)))
    (distinct-pairs xs (λ i j d l k. h (suc i) (suc j) d (omega (arith, l)) (omega (arith, k))))

module _ (X : List (List (List ℕ))) (hs : IsSpace X) (regular : IsRegular X) (m : ℕ) (u : List (List ℕ)) (h : IsLabelled X m u) where
  abbrev A : ℕ → ℕ
  A = first_end X

  abbrev B : ℕ → ℕ
  B = last_end X

  abbrev f : ℕ → ℕ → ℕ
  f = labelled.forth m (count X 1) u h.long h.permutations

  abbrev g : ℕ → ℕ → ℕ
  g = labelled.against m (count X 1) u h.long h.permutations

  -- the edge is flat as far as labels go
  pub flat-label : (over : ℕ → ℕ) (e : ℕ) → InRange (count X 1) e → Flat A B f over e → at (label u e) (over (A e)) ≡ over (B e)
  flat-label over e r k = sym (forth-is m (count X 1) u h.long h.permutations e (over (A e)) r) ∙ k

  -- the vertices of an edge
  edge-vertex : (e w : ℕ) → InRange (count X 1) e → IsBelow X 1 e 0 w → (w ≡ A e) ⊎ (w ≡ B e)
  edge-vertex e w r i =
      let s = below-facet X hs 0 e i (omega arith) in
      let q : w ≡ s.0 = below-top X hs 0 s.0 s.2 refl in
      elim ((ends-of X e hs regular r).only s.0 s.1) [ inl k ↦ inl (q ∙ k) | inr k ↦ inr (q ∙ k) ]

  -- ---- a vertex

  pub vertex-root : (c : ℕ) → InRange (count X 0) c → HasRoot X m u 0 c
  vertex-root c r =
      record {
        root = c;
        joined = λ w i. subst (λ (z : ℕ). Joins A B (holds (below X 0 c 1)) c z) (sym (below-top X hs 0 c i refl)) stay;
        choices = λ x q. ((λ v. x), record { here_is = refl; sheets = λ w. q; edges = λ e i. absurd (let l = below-dim X hs 0 c i in omega (arith, l)) });
      }

  -- ---- an edge

  pub edge-root : (c : ℕ) → InRange (count X 1) c → HasRoot X m u 1 c
  edge-root c r =
      record {
        root = A c;
        joined = λ w i. elim (edge-vertex c w r i) [ inl e ↦ subst (λ (z : ℕ). Joins A B (holds (below X 1 c 1)) (A c) z) (sym e) stay | inr e ↦ subst (λ (z : ℕ). Joins A B (holds (below X 1 c 1)) (A c) z) (sym e) (forth c (In-holds (In-below X hs 1 c r itself)) stay) ];
        choices = λ x q. (over x, record { here_is = over-first x; sheets = λ w. over-range x q w (eqb w (A c)) refl; edges = λ e i. subst (λ (z : ℕ). at (label u z) (over x (A z)) ≡ over x (B z)) (sym (below-top X hs 1 c i refl)) (ap (at (label u c)) (over-first x) ∙ sym (over-last x)) });
      }
    where
      over : ℕ → ℕ → ℕ
      over x v = cond (eqb v (first_end X c)) x (at (label u c) x)

      over-first : (x : ℕ) → over x (first_end X c) ≡ x
      over-first x = ap (λ (b : Bool). cond b x (at (label u c) x)) (eq-eqb (first_end X c) (first_end X c) refl)

      over-last : (x : ℕ) → over x (last_end X c) ≡ at (label u c) x
      over-last x = ap (λ (b : Bool). cond b x (at (label u c) x)) (ne_eqb (last_end X c) (first_end X c) (λ e. (ends-of X c hs regular r).apart (sym e)))

      into : (x : ℕ) → InRange m x → InRange m (at (label u c) x)
      into x q =
          let inv = are_inverse m (count X 1) u h.long h.permutations in
          subst (InRange m) (forth-is m (count X 1) u h.long h.permutations c x r) (range-true m (f c x) (inv.f_is c x (range-from m x q)))

      over-range : (x : ℕ) → InRange m x → (w : ℕ) (b : Bool) → eqb w (first_end X c) ≡ b → InRange m (cond b x (at (label u c) x))
      over-range x q w true e = q
      over-range x q w false e = into x q

  -- ---- a 2-cell

  module _ (law : CyclesGoRound) where
    cycle-inside : (c : ℕ) → InRange (count X 2) c → (s : Step) → In s (cycle X c) → In s.edge (facets_of X 2 c)
    cycle-inside c r s i = holds-In (facets_of X 2 c) (sym ((law X c hs regular r.0 r.1).edges_are s.edge) ∙ In-holds (In-map (λ (t : Step). t.edge) i))

    cycle-within : (c : ℕ) → InRange (count X 2) c → AreWithin (count X 1) (cycle X c)
    cycle-within c r s i = facet_in X hs 1 c s.edge r (cycle-inside c r s i)

    pub cycle-closes : (c x : ℕ) → InRange (count X 2) c → in_range m x ≡ true → joins.walk f g (cycle X c) x ≡ x
    cycle-closes c x r q = walk-is m (count X 1) u h.long h.permutations (cycle X c) (cycle-within c r) x ∙ closes-at m u (cycle X c) (h.closes_round c r) x (range-true m x q)

    -- the edges below are those of the steps
    edge-step : (c e : ℕ) → InRange (count X 2) c → IsBelow X 2 c 1 e → (s : Step) × In s (cycle X c) × (e ≡ s.edge)
    edge-step c e r i =
        let w = below-facet X hs 1 c i (omega arith) in
        let q : e ≡ w.0 = below-top X hs 1 w.0 w.2 refl in
        let k : In e (map (λ (t : Step). t.edge) (cycle X c)) = holds-In (map (λ (t : Step). t.edge) (cycle X c)) ((law X c hs regular r.0 r.1).edges_are e ∙ In-holds (subst (λ (z : ℕ). In z (facets_of X 2 c)) (sym q) w.1)) in
        map-In (λ (t : Step). t.edge) (cycle X c) k

    module _ (c : ℕ) (r : InRange (count X 2) c) (t : Step) (xs : List Step) (is : cycle X c ≡ t ∷ xs) where
      goes : GoesRound X (facets_of X 2 c) (cycle X c)
      goes = law X c hs regular r.0 r.1

      o : IsOpened (first_end X) (last_end X) t xs (start_of X t)
      o = round-opened X t xs (subst (λ (ss : List Step). map (end_of X) ss ≡ drop 1 (map (start_of X) ss) ++ take 1 (map (start_of X) ss)) is goes.closes)

      abbrev root : ℕ
      root = start A B t

      once : distinct (start A B t ∷ map (λ s. finish A B s) o.first) ≡ true
      once =
          subst (λ (zs : List ℕ). distinct zs ≡ true) (sym (o.starts ∙ map_agree (λ s. start A B s) (start_of X) (t ∷ xs) (start-is X)))
          (distinct-pairs (map (start_of X) (t ∷ xs)) (subst (λ (ss : List Step). AllPairs (λ a b. a ≢ b) (map (start_of X) ss)) is goes.vertices_once))

      tree : HasPathTree (first_end X) (last_end X) (start (first_end X) (last_end X) t) o.first
      tree = cycle_tree (first_end X) (last_end X) (start (first_end X) (last_end X) t) (start (first_end X) (last_end X) o.last) o.first o.chain once

      whole : cycle X c ≡ o.first ++ o.last ∷ []
      whole = is ∙ o.whole

      inside : (s : Step) → In s (o.first ++ o.last ∷ []) → IsBelow X 2 c 1 s.edge
      inside s i = facet 1 c s.edge itself (In-Contains (cycle-inside c r s (subst (In s) (sym whole) i)))

      ok : ℕ → Bool
      ok = holds (below X 2 c 1)

      inside-ok : (s : Step) → In s (o.first ++ o.last ∷ []) → holds (below X 2 c 1) s.edge ≡ true
      inside-ok s i = In-holds (In-below X hs 2 c r (inside s i))

      closed : Chain (first_end X) (last_end X) (start (first_end X) (last_end X) t) (o.first ++ o.last ∷ []) (start (first_end X) (last_end X) t)
      closed = chain-append o.chain (next (subst (λ (z : ℕ). Chain A B (finish A B o.last) [] z) (o.closing ∙ sym (start-is X t)) none))

      first-in : (s : Step) → In s o.first → In s (o.first ++ o.last ∷ [])
      first-in s i = In-left (o.last ∷ []) i

      to-first : (n : ℕ) → holds tree.nodes n ≡ true → Joins (first_end X) (last_end X) (holds (below X 2 c 1)) (start (first_end X) (last_end X) t) n
      to-first n i = tree-joins A B (holds (below X 2 c 1)) tree.grown (λ p j. (let s = tree.only p j in subst (λ (e : ℕ). holds (below X 2 c 1) e ≡ true) (sym s.2) (inside-ok s.0 (first-in s.0 s.1)))) n (holds-In tree.nodes i)

      -- both ends of the last step
      last-ends : Joins (first_end X) (last_end X) (holds (below X 2 c 1)) (start (first_end X) (last_end X) t) (first_end X o.last.edge) × Joins (first_end X) (last_end X) (holds (below X 2 c 1)) (start (first_end X) (last_end X) t) (last_end X o.last.edge)
      last-ends = by o.last.forward refl (chain-joins A B (holds (below X 2 c 1)) o.chain (λ s i. inside-ok s (first-in s i)))
        where
          k : holds (below X 2 c 1) o.last.edge ≡ true
          k = inside-ok o.last (In-right o.first here)

          by : (b : Bool) → o.last.forward ≡ b → Joins (first_end X) (last_end X) (holds (below X 2 c 1)) (start (first_end X) (last_end X) t) (start (first_end X) (last_end X) o.last)
              → Joins (first_end X) (last_end X) (holds (below X 2 c 1)) (start (first_end X) (last_end X) t) (first_end X o.last.edge) × Joins (first_end X) (last_end X) (holds (below X 2 c 1)) (start (first_end X) (last_end X) t) (last_end X o.last.edge)
          by true e j = let a : Joins (first_end X) (last_end X) (holds (below X 2 c 1)) (start (first_end X) (last_end X) t) (first_end X o.last.edge) = rw e at j in (a, joins-trans (first_end X) (last_end X) a (forth o.last.edge k stay))
          by false e j = let a : Joins (first_end X) (last_end X) (holds (below X 2 c 1)) (start (first_end X) (last_end X) t) (last_end X o.last.edge) = rw e at j in (joins-trans (first_end X) (last_end X) a (back o.last.edge k stay), a)

      step-ends : (s : Step) → In s (o.first ++ o.last ∷ []) → Joins (first_end X) (last_end X) (holds (below X 2 c 1)) (start (first_end X) (last_end X) t) (first_end X s.edge) × Joins (first_end X) (last_end X) (holds (below X 2 c 1)) (start (first_end X) (last_end X) t) (last_end X s.edge)
      step-ends s i =
          elim (append-In o.first (o.last ∷ []) i) [
            | inl j ↦ (let p = tree.used s j in let w = ends_taken tree.nodes tree.grown p.0 p.1 in (to-first (A s.edge) (rw (sym p.2) w.0), to-first (B s.edge) (rw (sym p.2) w.1)))
            | inr j ↦ elim (In-cases j) [ inl e ↦ rw e last-ends | inr n ↦ elim n [ ] ]
          ]

      disk-joined : (w : ℕ) → IsBelow X 2 c 0 w → Joins (first_end X) (last_end X) (holds (below X 2 c 1)) (start (first_end X) (last_end X) t) w
      disk-joined w i =
          let e = below-facet X hs 1 c i (omega arith) in
          let s = edge-step c e.0 r (facet 1 c e.0 itself (In-Contains e.1)) in
          let j = step-ends s.0 (subst (In s.0) whole s.1) in
          elim (edge-vertex e.0 w (facet_in X hs 1 c e.0 r e.1) e.2) [
            | inl q ↦ subst (λ (z : ℕ). Joins (first_end X) (last_end X) (holds (below X 2 c 1)) (start (first_end X) (last_end X) t) z) (sym (q ∙ ap (first_end X) s.2)) j.0
            | inr q ↦ subst (λ (z : ℕ). Joins (first_end X) (last_end X) (holds (below X 2 c 1)) (start (first_end X) (last_end X) t) z) (sym (q ∙ ap (last_end X) s.2)) j.1
          ]

      module _ (x : ℕ) (q : InRange m x) where
        over : ℕ → ℕ
        over = sheets (first_end X) (last_end X) f g tree.links x

        section : IsSection (first_end X) (last_end X) f (in_range m) (start (first_end X) (last_end X) t) x tree.links over
        unfolding over
        section = grown_flat A B f g (in_range m) (start A B t) x tree.links tree.nodes (are_inverse m (count X 1) u h.long h.permutations) (range-from m x q) tree.grown

        flat-first : (s : Step) → In s o.first → Flat (first_end X) (last_end X) f over s.edge
        flat-first s i = let p = tree.used s i in subst (λ (e : ℕ). Flat (first_end X) (last_end X) f over e) p.2 (section.flat p.0 p.1)

        flat-last : Flat (first_end X) (last_end X) f over o.last.edge
        flat-last =
            flat_forced A B f g (in_range m) over (are_inverse m (count X 1) u h.long h.permutations) section.sheet (start A B t) o.last o.first [] closed
            (λ y k. subst (λ (ss : List Step). joins.walk f g ss y ≡ y) whole (cycle-closes c y r k)) (λ s i. flat-first s i)

        flat-all : (e : ℕ) → IsBelow X 2 c 1 e → Flat (first_end X) (last_end X) f over e
        flat-all e i =
            let s = edge-step c e r i in
            subst (λ (z : ℕ). Flat (first_end X) (last_end X) f over z) (sym s.2)
            (elim (append-In o.first (o.last ∷ []) (subst (In s.0) whole s.1)) [ inl j ↦ flat-first s.0 j | inr j ↦ elim (In-cases j) [ inl k ↦ rw k flat-last | inr n ↦ elim n [ ] ] ])

        disk-choice : HasFlat X m u (IsBelow X 2 c 1) (start (first_end X) (last_end X) t) x
        disk-choice = (over, record { here_is = section.at_root; sheets = λ w. range-true m (over w) (section.sheet w); edges = λ e i. flat-label over e (below-range X hs 2 c r i) (flat-all e i) })

      opened-root : HasRoot X m u 2 c
      opened-root = record { root = start A B t; joined = disk-joined; choices = disk-choice }

    pub disk-root : (c : ℕ) → InRange (count X 2) c → HasRoot X m u 2 c
    disk-root c r = by (cycle X c) refl
      where
        by : (ss : List Step) → cycle X c ≡ ss → HasRoot X m u 2 c
        by (t ∷ xs) e = opened-root c r t xs e
        by [] e =
            let s = edge-step c (get_or (facets_of X 2 c) 0 0) r (facet 1 c (get_or (facets_of X 2 c) 0 0) itself (In-Contains (first_facet X hs 1 c r))) in
            elim (subst (In s.0) e s.1) [ ]
