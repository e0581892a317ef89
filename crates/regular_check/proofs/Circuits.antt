-- Edges that are listed so that they go once round: each vertex of theirs has two of them, and they are connected.
use Rattle.std.proofs.Common.{◌≡◌, ◌≢◌, ◌⊎◌, inl, inr, ℕ, zero, suc, ◌+◌, ◌-◌, ◌<◌, ◌≤◌, List, [], ◌∷◌, ◌++◌, Bool, true, false, cond, eqb, map, length, take, drop, get_or, refl, ap, sym, ◌∙◌, subst, arith}
use Rattle.std.specs.List.{list_all}
use Rattle.std.specs.List.Sorted.{IsStrictlyIncreasing}
use Rattle.std.proofs.lemmas.Bool.{eqb-true, eq-eqb, cases_lt, and_from}
use Rattle.std.proofs.lemmas.List.{get_or-map, get_or_default, get_or_past, length-map}
use Rattle.std.proofs.lemmas.List.Kept.{IsStrictlyIncreasing-filter}
use Rattle.number_lists.specs.Words.{holds}
use Rattle.face_poset.specs.Poset.{IsCell, count, facets_of}
use Rattle.regular_check.specs.declared.cycles.Step.{Step}
use Rattle.number_lists.specs.Reach.{reaches, Reaches, at_start, on}
use Rattle.regular_check.specs.Rules.{sharing, meet, each_twice, connected, two_ends}
use Rattle.regular_check.specs.Cycle.{start_of, end_of, GoesRound, OneCycleGoesRound, cycle}
use Rattle.number_lists.specs.Members.{In, here, there}
use Rattle.number_lists.proofs.CallerLemmas.{In-filter, In-inside, filter-In, any-In, all-In, In-all, holds-In, In-holds, In-at, at-In, and-left, and-right, reaches_is, length-inside, distinct_rising}
use Rattle.regular_check.proofs.Cells.{facets-cell}
use Rattle.regular_check.proofs.Distinct.{cell-In}
use Rattle.regular_check.proofs.Leasts.{path_on, path_back}
use Rattle.regular_check.proofs.Rounds.{IsOther, first, second, meet_same, apart-distinct, cycle_goes}

-- an increasing list with two members and no other has length 2
two_members : (xs : List ℕ) (a b : ℕ) → IsStrictlyIncreasing xs → a ≢ b → In a xs → In b xs → ((x : ℕ) → In x xs → (x ≡ a) ⊎ (x ≡ b)) → length xs ≡ 2
two_members xs a b rises apart m n only =
    let few : length xs ≤ length (a ∷ b ∷ []) = length-inside xs (a ∷ b ∷ []) (distinct_rising xs rises) (λ x i. elim (only x i) [ inl p ↦ subst (λ (y : ℕ). In y (a ∷ b ∷ [])) (sym p) here | inr p ↦ subst (λ (y : ℕ). In y (a ∷ b ∷ [])) (sym p) (there here) ]) in
    let many : length (a ∷ b ∷ []) ≤ length xs = length-inside (a ∷ b ∷ []) xs (apart-distinct (a ∷ b ∷ []) (λ i j d l k. pair_apart i j d l k)) both in
    omega (arith, few, many)
  where
    pair_apart : (i j d : ℕ) → i < j → j < 2 → get_or (a ∷ b ∷ []) i d ≢ get_or (a ∷ b ∷ []) j d
    pair_apart zero zero d l k = absurd (omega (arith, l))
    pair_apart zero (suc zero) d l k = apart
    pair_apart zero (suc (suc j)) d l k = absurd (omega (arith, k))
    pair_apart (suc i) zero d l k = absurd (omega (arith, l))
    pair_apart (suc i) (suc j) d l k = absurd (omega (arith, l, k))

    both : (y : ℕ) → In y (a ∷ b ∷ []) → In y xs
    both y here = m
    both y (there here) = n
    both y (there (there h)) = elim h [ ]

-- the two ends of an edge, in one order or the other
both_ends : (fs : List ℕ) (forward : Bool) → length fs ≡ 2 → IsStrictlyIncreasing fs → In (get_or fs (cond forward 0 1) 0) fs × IsOther fs (get_or fs (cond forward 0 1) 0) (get_or fs (cond forward 1 0) 0)
both_ends [] forward e h = absurd (omega arith)
both_ends (a ∷ []) forward e h = absurd (omega arith)
both_ends (a ∷ b ∷ []) true e h = (here, second a b (h 0 (omega arith)))
both_ends (a ∷ b ∷ []) false e h = (there here, first a b (h 0 (omega arith)))
both_ends (a ∷ b ∷ c ∷ xs) forward e h = absurd (omega arith)

-- ---- edges and vertices in a ring

module _ (space : List (List (List ℕ))) (edges : List ℕ) where
  -- edges 0 to `last` of the ring are the edges of the list, each once; edge k leads from vertex k to the next one, vertex `last` + 1 is
  -- vertex 0 again, and before that no vertex comes twice
  record IsRing (last : ℕ) (vertex edge : ℕ → ℕ) : Type 0 where
    pub back : vertex (suc last) ≡ vertex 0
    pub vertices : (i j : ℕ) → i < j → j ≤ last → vertex i ≢ vertex j
    pub edges_too : (i j : ℕ) → i < j → j ≤ last → edge i ≢ edge j
    pub inside : (k : ℕ) → k ≤ last → In (edge k) edges
    pub whole : (e : ℕ) → In e edges → (k : ℕ) × (k ≤ last) × (e ≡ edge k)
    pub begins : (k : ℕ) → k ≤ last → In (vertex k) (facets_of space 1 (edge k))
    pub ends : (k : ℕ) → k ≤ last → IsOther (facets_of space 1 (edge k)) (vertex k) (vertex (suc k))

  many : (last : ℕ) (vertex edge : ℕ → ℕ) → IsRing last vertex edge → 1 ≤ last
  many zero vertex edge r = absurd ((r.ends 0 (omega arith)).apart r.back)
  many (suc last) vertex edge r = omega arith

  module _ (rises : IsStrictlyIncreasing edges) (last : ℕ) (vertex edge : ℕ → ℕ) (r : IsRing last vertex edge) where
    same_place : (i j : ℕ) → i ≤ last → j ≤ last → vertex i ≡ vertex j → i ≡ j
    same_place i j l m e =
        elim (cases_lt i j) [
          | inl p ↦ absurd (r.vertices i j p m e)
          | inr p ↦ elim (cases_lt j i) [ inl q ↦ absurd (r.vertices j i q l (sym e)) | inr q ↦ omega (arith, p, q) ]
        ]

    edge_at_two : (x a b : ℕ) → a ≤ last → b ≤ last → edge a ≢ edge b → In x (facets_of space 1 (edge a)) → In x (facets_of space 1 (edge b))
        → ((k : ℕ) → k ≤ last → In x (facets_of space 1 (edge k)) → (k ≡ a) ⊎ (k ≡ b)) → length (sharing space 1 edges x) ≡ 2
    edge_at_two x a b l m apart p q only =
        two_members (sharing space 1 edges x) (edge a) (edge b) (IsStrictlyIncreasing-filter (λ c. holds (facets_of space 1 c) x) edges rises) apart (shares a l p) (shares b m q)
        (λ e i.
        let w = r.whole e (In-inside (λ c. holds (facets_of space 1 c) x) edges i) in
        let on_it : In x (facets_of space 1 (edge w.0)) = subst (λ (y : ℕ). In x (facets_of space 1 y)) w.2 (holds-In (facets_of space 1 e) (filter-In (λ c. holds (facets_of space 1 c) x) edges i)) in
        elim (only w.0 w.1 on_it) [ inl s ↦ inl (w.2 ∙ ap edge s) | inr s ↦ inr (w.2 ∙ ap edge s) ])
      where
        shares : (k : ℕ) → k ≤ last → In x (facets_of space 1 (edge k)) → In (edge k) (sharing space 1 edges x)
        shares k n i = In-filter (λ c. holds (facets_of space 1 c) x) (r.inside k n) (In-holds i)

    -- an edge that has a vertex leads from it or to it
    from_or_to : (j k : ℕ) → j ≤ last → k ≤ last → In (vertex j) (facets_of space 1 (edge k)) → (j ≡ k) ⊎ (vertex j ≡ vertex (suc k))
    from_or_to j k l m i = elim ((r.ends k m).only (vertex j) i) [ inl p ↦ inl (same_place j k l m p) | inr p ↦ inr p ]

    at_vertex : (j : ℕ) → j ≤ last → length (sharing space 1 edges (vertex j)) ≡ 2
    at_vertex zero l =
        edge_at_two (vertex 0) 0 last (omega arith) (omega arith) (r.edges_too 0 last (many last vertex edge r) (omega arith)) (r.begins 0 (omega arith))
        (subst (λ (x : ℕ). In x (facets_of space 1 (edge last))) r.back (r.ends last (omega arith)).there_too)
        (λ k m i. elim (from_or_to 0 k (omega arith) m i) [
          | inl p ↦ inl (sym p)
          | inr p ↦ elim (cases_lt k last) [ inl q ↦ absurd (r.vertices 0 (suc k) (omega arith) (omega (arith, q)) p) | inr q ↦ inr (omega (arith, q, m)) ]
        ])
    at_vertex (suc j) l =
        edge_at_two (vertex (suc j)) j (suc j) (omega (arith, l)) l (r.edges_too j (suc j) (omega arith) l) (r.ends j (omega (arith, l))).there_too (r.begins (suc j) l)
        (λ k m i. elim (from_or_to (suc j) k l m i) [
          | inl p ↦ inr (sym p)
          | inr p ↦
              elim (cases_lt k last) [
                | inl q ↦ inl (let s : suc j ≡ suc k = same_place (suc j) (suc k) l (omega (arith, q)) p in omega (arith, s))
                | inr q ↦ absurd (r.vertices 0 (suc j) (omega arith) l (sym (p ∙ (ap (λ (n : ℕ). vertex (suc n)) (omega (arith, q, m)) ∙ r.back))))
              ]
        ])

    ring_twice : each_twice space 1 edges ≡ true
    ring_twice =
        In-all (λ e. list_all (λ f. eqb (length (sharing space 1 edges f)) 2) (facets_of space 1 e)) edges
        (λ e i. In-all (λ f. eqb (length (sharing space 1 edges f)) 2) (facets_of space 1 e) (λ f m. eq-eqb (length (sharing space 1 edges f)) 2 (at_end e f i m)))
      where
        at_end : (e f : ℕ) → In e edges → In f (facets_of space 1 e) → length (sharing space 1 edges f) ≡ 2
        at_end e f i m =
            let w = r.whole e i in
            let m2 : In f (facets_of space 1 (edge w.0)) = subst (λ (x : ℕ). In f (facets_of space 1 x)) w.2 m in
            elim ((r.ends w.0 w.1).only f m2) [
              | inl p ↦ ap (λ (x : ℕ). length (sharing space 1 edges x)) p ∙ at_vertex w.0 w.1
              | inr p ↦
                  ap (λ (x : ℕ). length (sharing space 1 edges x)) p
                  ∙ elim (cases_lt w.0 last) [
                    | inl q ↦ at_vertex (suc w.0) (omega (arith, q))
                    | inr q ↦ ap (λ (n : ℕ). length (sharing space 1 edges (vertex (suc n)))) (omega (arith, q, w.1)) ∙ (ap (λ (x : ℕ). length (sharing space 1 edges x)) r.back ∙ at_vertex 0 (omega arith))
                  ]
            ]

    from_first : (k : ℕ) → k ≤ last → Reaches (meet space 1) edges (edge 0) (edge k)
    from_first zero l = at_start
    from_first (suc k) l = on (from_first k (omega (arith, l))) (any-In (λ f. holds (facets_of space 1 (edge (suc k))) f) (r.ends k (omega (arith, l))).there_too (In-holds (r.begins (suc k) l))) (In-holds (r.inside (suc k) l))

    ring_connected : 1 ≤ length edges → connected space 1 edges ≡ true
    ring_connected some =
        let c : ℕ = get_or edges 0 0 in
        let here_is : In c edges = at-In edges 0 0 some in
        let path : (e : ℕ) → In e edges → Reaches (meet space 1) edges (edge 0) e = λ e i. (let w = r.whole e i in subst (Reaches (meet space 1) edges (edge 0)) (sym w.2) (from_first w.0 w.1)) in
        let to_first : Reaches (meet space 1) edges c (edge 0) = path_back (meet space 1) edges (meet_same space) (In-holds (r.inside 0 (omega arith))) (path c here_is) in
        In-all (reaches (meet space 1) edges c) edges (λ e i. (reaches_is (meet space 1) edges c e (In-holds here_is)).1 (path_on (meet space 1) edges to_first (path e i)))

-- ---- the steps of a listing

-- a list from its second member on, and then its first
turned-push : (ss : List ℕ) (s i : ℕ) → i < length ss + 1 → get_or (ss ++ s ∷ []) i 0 ≡ get_or ss i s
turned-push [] s zero l = refl
turned-push [] s (suc i) l = absurd (omega (arith, l))
turned-push (x ∷ ss) s zero l = refl
turned-push (x ∷ ss) s (suc i) l = turned-push ss s i (omega (arith, l))

turned_at : (ss : List ℕ) (i : ℕ) → i < length ss → get_or (drop 1 ss ++ take 1 ss) i 0 ≡ get_or ss (suc i) (get_or ss 0 0)
turned_at [] i l = absurd (omega (arith, l))
turned_at (s ∷ ss) i l = turned-push ss s i (omega (arith, l))

module _ (space : List (List (List ℕ))) (edges : List ℕ) (steps : List Step) (some : 1 ≤ length edges)
    (two : (e : ℕ) → In e edges → (length (facets_of space 1 e) ≡ 2) × IsStrictlyIncreasing (facets_of space 1 e)) (g : GoesRound space edges steps) where
  abbrev edge_of : Step → ℕ
  edge_of s = s.edge

  abbrev vertex : ℕ → ℕ
  vertex k = get_or (map (start_of space) steps) k (get_or (map (start_of space) steps) 0 0)

  abbrev edge : ℕ → ℕ
  edge k = get_or (map (λ (s : Step). s.edge) steps) k 0

  is_step : (e : ℕ) → In e edges → (k : ℕ) × (k < length steps) × (e ≡ edge k)
  is_step e i =
      let a = In-at (holds-In (map (λ (s : Step). s.edge) steps) (g.edges_are e ∙ In-holds i)) in
      (a.0, omega (arith, a.1, length-map steps edge_of), sym a.2)

  step_in : (k : ℕ) → k < length steps → In (edge k) edges
  step_in k l = holds-In edges (sym (g.edges_are (edge k)) ∙ In-holds (at-In (map (λ (s : Step). s.edge) steps) k 0 (omega (arith, l, length-map steps edge_of))))

  some_steps : 1 ≤ length steps
  some_steps = let a = is_step (get_or edges 0 0) (at-In edges 0 0 some) in omega (arith, a.1)

  -- the ends of the edge of a step
  step_ends : (k : ℕ) → k < length steps → In (vertex k) (facets_of space 1 (edge k)) × IsOther (facets_of space 1 (edge k)) (vertex k) (vertex (suc k))
  step_ends k l =
      let none : Step = record { edge = 0; forward = true } in
      let s : Step = get_or steps k none in
      let starts : List ℕ = map (start_of space) steps in
      let long : k < length starts = omega (arith, l, length-map steps (start_of space)) in
      let e : edge k ≡ s.edge = get_or-map edge_of steps k none 0 l in
      let v : vertex k ≡ start_of space s = get_or-map (start_of space) steps k none (get_or starts 0 0) l in
      let u : vertex (suc k) ≡ end_of space s = sym (turned_at starts k long) ∙ (ap (λ (xs : List ℕ). get_or xs k 0) (sym g.closes) ∙ get_or-map (end_of space) steps k none 0 l) in
      let t = two (edge k) (step_in k l) in
      let w = both_ends (facets_of space 1 s.edge) s.forward (sym (ap (λ (x : ℕ). length (facets_of space 1 x)) e) ∙ t.0) (subst (λ (x : ℕ). IsStrictlyIncreasing (facets_of space 1 x)) e t.1) in
      let w0 : In (vertex k) (facets_of space 1 s.edge) = subst (λ (x : ℕ). In x (facets_of space 1 s.edge)) (sym v) w.0 in
      let w1 : IsOther (facets_of space 1 s.edge) (vertex k) (vertex (suc k)) = subst (λ (x : ℕ). IsOther (facets_of space 1 s.edge) x (vertex (suc k))) (sym v) (subst (IsOther (facets_of space 1 s.edge) (start_of space s)) (sym u) w.1) in (
        subst (λ (x : ℕ). In (vertex k) (facets_of space 1 x)) (sym e) w0,
        subst (λ (x : ℕ). IsOther (facets_of space 1 x) (vertex k) (vertex (suc k))) (sym e) w1,
      )

  ring : IsRing space edges (length steps - 1) vertex edge
  ring =
      let starts : List ℕ = map (start_of space) steps in
      let first_start : ℕ = get_or starts 0 0 in
      let long : length starts ≡ length steps = length-map steps (start_of space) in
      record {
        back = get_or_past starts (suc (length steps - 1)) first_start (omega (arith, long)) ∙ get_or_default starts 0 0 first_start (omega (arith, long, some_steps));
        vertices = λ i j l m. g.vertices_once i j first_start l (omega (arith, m, long, some_steps));
        edges_too = λ i j l m. g.edges_once i j 0 l (omega (arith, m, length-map steps edge_of, some_steps));
        inside = λ k l. step_in k (omega (arith, l, some_steps));
        whole = λ e i. (let a = is_step e i in (a.0, omega (arith, a.1), a.2));
        begins = λ k l. (step_ends k (omega (arith, l, some_steps))).0;
        ends = λ k l. (step_ends k (omega (arith, l, some_steps))).1;
      }

  both_hold : IsStrictlyIncreasing edges → (each_twice space 1 edges ≡ true) × (connected space 1 edges ≡ true)
  both_hold rises = (ring_twice space edges rises (length steps - 1) vertex edge ring, ring_connected space edges rises (length steps - 1) vertex edge ring some)

pub one_cycle_goes_round : OneCycleGoesRound
one_cycle_goes_round space cell valid low high h =
    let edges : List ℕ = facets_of space 2 cell in
    let is : IsCell (count space 1) edges = facets-cell space 2 cell (count space 1) valid (omega arith) low high (omega arith) in
    let ends : (e : ℕ) → In e edges → length (facets_of space 1 e) ≡ 2 = λ e i. eqb-true (length (facets_of space 1 e)) 2 (all-In (two_ends space) h i) in
    let two : (e : ℕ) → In e edges → (length (facets_of space 1 e) ≡ 2) × IsStrictlyIncreasing (facets_of space 1 e) = λ e i.
    (let w = cell-In (count space 1) edges is e i in (ends e i, (facets-cell space 1 e (count space 0) valid (omega arith) w.0 w.1 (omega arith)).rises)) in (
      λ e. (
        cycle space cell,
        cycle_goes space edges
            (record { valid = valid; cell = is; ends = ends; twice = and-left (each_twice space 1 edges) (connected space 1 edges) e; one = and-right (each_twice space 1 edges) (connected space 1 edges) e }),
      ),
      λ s. (let r = both_hold space edges s.0 is.some two s.1 is.rises in and_from (each_twice space 1 edges) (connected space 1 edges) r.0 r.1),
    )
