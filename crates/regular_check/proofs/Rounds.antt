-- The walk along the edges of a 2-cell goes once round.
use Rattle.std.proofs.Common.{◌≡◌, ◌≢◌, ◌⊎◌, inl, inr, ℕ, zero, suc, ◌+◌, ◌<◌, ◌≤◌, List, [], ◌∷◌, ◌++◌, Bool, true, not, cond, eqb, filter, map, length, take, drop, get_or, AllPairs, refl, ap, sym, ◌∙◌, subst, arith}
use Rattle.std.specs.List.{range_with_len, IsDistinct}
use Rattle.std.specs.List.Sorted.{IsStrictlyIncreasing}
use Rattle.std.specs.Cmp.{both_ways}
use Rattle.std.proofs.lemmas.Bool.{eq-eqb, ne_eqb}
use Rattle.std.proofs.lemmas.Bool.Decides.{eqb_tells}
use Rattle.std.proofs.lemmas.List.{same_lists, get_or-map, length-map}
use Rattle.std.proofs.lemmas.List.FromFn.{length-map-range_with_len, get_or-map-range_with_len, map-range_with_len_more}
use Rattle.std.proofs.lemmas.List.Kept.{IsStrictlyIncreasing-filter}
use Rattle.std.proofs.lemmas.Map.Keys.{IsDistinct-from_apart}
use Rattle.number_lists.specs.Words.{holds}
use Rattle.face_poset.specs.Poset.{IsCell, IsSpace, count, facets_of}
use Rattle.face_poset.specs.Below.{facets_of_all}
use Rattle.number_lists.proofs.CallerLemmas.{distinct_rising, In-filter, In-inside, filter-In, any-In, any-some, all-In, holds-In, In-holds, In-at, at-In, reaches_is, length-inside}
use Rattle.regular_check.specs.declared.cycles.Step.{Step}
use Rattle.number_lists.specs.Reach.{reaches, Reaches, at_start, on}
use Rattle.regular_check.specs.Rules.{sharing, meet, each_twice, connected}
use Rattle.regular_check.specs.Cycle.{start_of, end_of, step_from, edge_at, other_edge, walk, least_vertex, cycle_along, GoesRound}
use Rattle.number_lists.specs.Members.{In, here, there}
use Rattle.regular_check.proofs.Cells.{facets-cell}
use Rattle.regular_check.proofs.Searching.{two_sharing, sum_two}
use Rattle.regular_check.proofs.Distinct.{cell-In, In-all_facets, all_facets-In}
use Rattle.regular_check.proofs.Leasts.{path_on, path_back}
use Rattle.regular_check.proofs.Walking.{other_first}

-- ---- two numbers in a list

-- the list has v and u, which ne_eqb, and no other
pub record IsOther (xs : List ℕ) (v u : ℕ) : Type 0 where
  pub there_too : In u xs
  pub apart : u ≢ v
  pub only : (x : ℕ) → In x xs → (x ≡ v) ⊎ (x ≡ u)

only_two : (a b : ℕ) → {x : ℕ} → In x (a ∷ b ∷ []) → (x ≡ a) ⊎ (x ≡ b)
only_two a b here = inl refl
only_two a b (there here) = inr refl
only_two a b (there (there h)) = elim h [ ]

swap : {A B : Type 0} → A ⊎ B → B ⊎ A
swap (inl a) = inr a
swap (inr b) = inl b

pub second : (a b : ℕ) → a < b → IsOther (a ∷ b ∷ []) a b
second a b l = record { there_too = there here; apart = λ e. omega (arith, l, e); only = λ x h. only_two a b h }

pub first : (a b : ℕ) → a < b → IsOther (a ∷ b ∷ []) b a
first a b l = record { there_too = here; apart = λ e. omega (arith, l, e); only = λ x h. swap (only_two a b h) }

-- the end of a step from v along an edge with these two vertices
other_end : (fs : List ℕ) (v : ℕ) → length fs ≡ 2 → IsStrictlyIncreasing fs → In v fs → IsOther fs v (get_or fs (cond (eqb (get_or fs 0 0) v) 1 0) 0)
other_end [] v e h m = absurd (omega arith)
other_end (a ∷ []) v e h m = absurd (omega arith)
other_end (a ∷ b ∷ []) v e h here = subst (λ (t : Bool). IsOther (a ∷ b ∷ []) a (get_or (a ∷ b ∷ []) (cond t 1 0) 0)) (sym (eq-eqb a a refl)) (second a b (h 0 (omega arith)))
other_end (a ∷ b ∷ []) v e h (there here) =
    let l : a < b = h 0 (omega arith) in
    subst (λ (t : Bool). IsOther (a ∷ b ∷ []) b (get_or (a ∷ b ∷ []) (cond t 1 0) 0)) (sym (ne_eqb a b (λ q. omega (arith, l, q)))) (first a b l)
other_end (a ∷ b ∷ []) v e h (there (there m)) = elim m [ ]
other_end (a ∷ b ∷ c ∷ xs) v e h m = absurd (omega arith)

-- and where it begins
own_end : (fs : List ℕ) (v : ℕ) → length fs ≡ 2 → IsStrictlyIncreasing fs → In v fs → get_or fs (cond (eqb (get_or fs 0 0) v) 0 1) 0 ≡ v
own_end [] v e h m = absurd (omega arith)
own_end (a ∷ []) v e h m = absurd (omega arith)
own_end (a ∷ b ∷ []) v e h here = ap (λ (t : Bool). get_or (a ∷ b ∷ []) (cond t 0 1) 0) (eq-eqb a a refl)
own_end (a ∷ b ∷ []) v e h (there here) = let l : a < b = h 0 (omega arith) in ap (λ (t : Bool). get_or (a ∷ b ∷ []) (cond t 0 1) 0) (ne_eqb a b (λ q. omega (arith, l, q)))
own_end (a ∷ b ∷ []) v e h (there (there m)) = elim m [ ]
own_end (a ∷ b ∷ c ∷ xs) v e h m = absurd (omega arith)

-- the first of two that is not e
other_of : (xs : List ℕ) (e : ℕ) → length xs ≡ 2 → IsStrictlyIncreasing xs → In e xs → IsOther xs e (get_or (filter (λ x. not (eqb x e)) xs) 0 0)
other_of [] e l h m = absurd (omega arith)
other_of (a ∷ []) e l h m = absurd (omega arith)
other_of (a ∷ b ∷ []) e l h here =
    let q : get_or (filter (λ x. not (eqb x a)) (a ∷ b ∷ [])) 0 0 ≡ b = other_first (a ∷ b ∷ []) a l h here ∙ omega (arith, sum_two a b) in
    subst (IsOther (a ∷ b ∷ []) a) (sym q) (second a b (h 0 (omega arith)))
other_of (a ∷ b ∷ []) e l h (there here) =
    let q : get_or (filter (λ x. not (eqb x b)) (a ∷ b ∷ [])) 0 0 ≡ a = other_first (a ∷ b ∷ []) b l h (there here) ∙ omega (arith, sum_two a b) in
    subst (IsOther (a ∷ b ∷ []) b) (sym q) (first a b (h 0 (omega arith)))
other_of (a ∷ b ∷ []) e l h (there (there m)) = elim m [ ]
other_of (a ∷ b ∷ c ∷ xs) e l h m = absurd (omega arith)

-- what a function gives on the numbers below n
In-made : (f : ℕ → ℕ) (n k : ℕ) → k < n → In (f k) (map f (range_with_len 0 n))
In-made f n k l =
    subst (λ (x : ℕ). In x (map f (range_with_len 0 n))) (get_or-map-range_with_len f 0 n k k 0 l (omega arith)) (at-In (map f (range_with_len 0 n)) k 0 (omega (arith, length-map-range_with_len f 0 n)))

made-In : (f : ℕ → ℕ) (n : ℕ) {x : ℕ} → In x (map f (range_with_len 0 n)) → (k : ℕ) × (k < n) × (x ≡ f k)
made-In f n i =
    let a = In-at i in
    let l : a.0 < n = omega (arith, a.1, length-map-range_with_len f 0 n) in
    (a.0, l, sym a.2 ∙ get_or-map-range_with_len f 0 n a.0 a.0 0 l (omega arith))

made-apart : (f : ℕ → ℕ) (n : ℕ) → ((i j : ℕ) → i < j → j < n → f i ≢ f j) → AllPairs (λ a b. a ≢ b) (map f (range_with_len 0 n))
made-apart f n h i j d l m =
    let b : j < n = omega (arith, m, length-map-range_with_len f 0 n) in
    λ e. h i j l b (sym (get_or-map-range_with_len f 0 n i i d (omega (arith, l, b)) (omega arith)) ∙ (e ∙ get_or-map-range_with_len f 0 n j j d b (omega arith)))

pub apart-distinct : (xs : List ℕ) → AllPairs (λ a b. a ≢ b) xs → IsDistinct eqb xs
apart-distinct xs h = IsDistinct-from_apart eqb xs (λ i j d l m. ne_eqb (get_or xs i d) (get_or xs j d) (h i j d l m))

-- whether two edges meet is told in either order
meet_back : (space : List (List (List ℕ))) (a c : ℕ) → meet space 1 a c ≡ true → meet space 1 c a ≡ true
meet_back space a c t = let s = any-some (λ f. holds (facets_of space 1 c) f) (facets_of space 1 a) t in any-In (λ f. holds (facets_of space 1 a) f) (holds-In (facets_of space 1 c) s.2) (In-holds s.1)

pub meet_same : (space : List (List (List ℕ))) (a c : ℕ) → meet space 1 a c ≡ meet space 1 c a
meet_same space a c = both_ways (meet space 1 a c) (meet space 1 c a) (meet_back space a c) (meet_back space c a)

module _ (space : List (List (List ℕ))) (edges : List ℕ) where
  -- ---- where the walk is after so many steps

  abbrev next_vertex : ℕ → ℕ → ℕ
  next_vertex v e = end_of space (step_from space v e)

  abbrev next_edge : ℕ → ℕ → ℕ
  next_edge v e = other_edge space edges (end_of space (step_from space v e)) e

  abbrev vertex_after : ℕ → ℕ → ℕ → ℕ
  vertex_after v e zero = v
  vertex_after v e (suc k) = vertex_after (next_vertex v e) (next_edge v e) k

  abbrev edge_after : ℕ → ℕ → ℕ → ℕ
  edge_after v e zero = e
  edge_after v e (suc k) = edge_after (next_vertex v e) (next_edge v e) k

  vertex_step : (v e k : ℕ) → vertex_after v e (suc k) ≡ next_vertex (vertex_after v e k) (edge_after v e k)
  vertex_step v e zero = refl
  vertex_step v e (suc k) = vertex_step (next_vertex v e) (next_edge v e) k

  edge_step : (v e k : ℕ) → edge_after v e (suc k) ≡ next_edge (vertex_after v e k) (edge_after v e k)
  edge_step v e zero = refl
  edge_step v e (suc k) = edge_step (next_vertex v e) (next_edge v e) k

  length-walk : (n v e : ℕ) → length (walk space edges n v e) ≡ n
  length-walk zero v e = refl
  length-walk (suc n) v e = let q : length (walk space edges n (next_vertex v e) (next_edge v e)) ≡ n = length-walk n (next_vertex v e) (next_edge v e) in omega (arith, q)

  walk_at : (n v e k : ℕ) (d : Step) → k < n → get_or (walk space edges n v e) k d ≡ step_from space (vertex_after v e k) (edge_after v e k)
  walk_at zero v e k d l = absurd (omega arith)
  walk_at (suc n) v e zero d l = refl
  walk_at (suc n) v e (suc k) d l = walk_at n (next_vertex v e) (next_edge v e) k d (omega arith)

  -- ---- a 2-cell's edges form a cycle

  pub record AreRound : Type 0 where
    pub valid : IsSpace space
    pub cell : IsCell (count space 1) edges
    pub ends : (e : ℕ) → In e edges → length (facets_of space 1 e) ≡ 2
    pub twice : each_twice space 1 edges ≡ true
    pub one : connected space 1 edges ≡ true

  module _ (h : AreRound) where
    two_ends : (e : ℕ) → In e edges → (length (facets_of space 1 e) ≡ 2) × IsStrictlyIncreasing (facets_of space 1 e)
    two_ends e m =
        let w = cell-In (count space 1) edges h.cell e m in
        (h.ends e m, (facets-cell space 1 e (count space 0) h.valid (omega arith) w.0 w.1 (omega arith)).rises)

    -- the ends of an edge
    ends_at : (v e : ℕ) → In e edges → In v (facets_of space 1 e) → IsOther (facets_of space 1 e) v (next_vertex v e)
    ends_at v e m k = let t = two_ends e m in other_end (facets_of space 1 e) v t.0 t.1 k

    -- the edges at a vertex
    edges_at : (v e : ℕ) → In e edges → In v (facets_of space 1 e) → IsOther (sharing space 1 edges v) e (other_edge space edges v e)
    edges_at v e m k =
        other_of (sharing space 1 edges v) e (two_sharing space 1 edges e v h.twice m k) (IsStrictlyIncreasing-filter (λ c. holds (facets_of space 1 c) v) edges h.cell.rises) (In-filter (λ c. holds (facets_of space 1 c) v) m (In-holds k))

    shares : (v z : ℕ) → In z edges → In v (facets_of space 1 z) → In z (sharing space 1 edges v)
    shares v z m k = In-filter (λ c. holds (facets_of space 1 c) v) m (In-holds k)

    module _ (v e : ℕ) (start : In e edges) (begin : In v (facets_of space 1 e)) where
      -- the walk stays on the edges
      at : (k : ℕ) → In (edge_after v e k) edges × In (vertex_after v e k) (facets_of space 1 (edge_after v e k))
      at zero = (start, begin)
      at (suc k) =
          let a = at k in
          let u : ℕ = next_vertex (vertex_after v e k) (edge_after v e k) in
          let k2 : In u (facets_of space 1 (edge_after v e k)) = (ends_at (vertex_after v e k) (edge_after v e k) a.0 a.1).there_too in
          let o : In (other_edge space edges u (edge_after v e k)) (sharing space 1 edges u) = (edges_at u (edge_after v e k) a.0 k2).there_too in (
            subst (λ (x : ℕ). In x edges) (sym (edge_step v e k)) (In-inside (λ c. holds (facets_of space 1 c) u) edges o),
            subst (λ (x : ℕ). In (vertex_after v e (suc k)) (facets_of space 1 x)) (sym (edge_step v e k))
                (subst (λ (y : ℕ). In y (facets_of space 1 (other_edge space edges u (edge_after v e k)))) (sym (vertex_step v e k)) (holds-In (facets_of space 1 (other_edge space edges u (edge_after v e k))) (filter-In (λ c. holds (facets_of space 1 c) u) edges o))),
          )

      -- the ends of the edge of a step
      step_ends : (k : ℕ) → IsOther (facets_of space 1 (edge_after v e k)) (vertex_after v e k) (vertex_after v e (suc k))
      step_ends k = let a = at k in subst (IsOther (facets_of space 1 (edge_after v e k)) (vertex_after v e k)) (sym (vertex_step v e k)) (ends_at (vertex_after v e k) (edge_after v e k) a.0 a.1)

      -- the edges at the end of a step
      step_edges : (k : ℕ) → IsOther (sharing space 1 edges (vertex_after v e (suc k))) (edge_after v e k) (edge_after v e (suc k))
      step_edges k =
          let a = at k in
          let u : ℕ = next_vertex (vertex_after v e k) (edge_after v e k) in
          let k2 : In u (facets_of space 1 (edge_after v e k)) = (ends_at (vertex_after v e k) (edge_after v e k) a.0 a.1).there_too in
          subst (λ (x : ℕ). IsOther (sharing space 1 edges (vertex_after v e (suc k))) (edge_after v e k) x) (sym (edge_step v e k))
          (subst (λ (y : ℕ). IsOther (sharing space 1 edges y) (edge_after v e k) (other_edge space edges u (edge_after v e k))) (sym (vertex_step v e k)) (edges_at u (edge_after v e k) a.0 k2))

      -- an edge at the end of step k is that of step k or of the next
      at_end : (k z : ℕ) → In z edges → In (vertex_after v e (suc k)) (facets_of space 1 z) → (z ≡ edge_after v e k) ⊎ (z ≡ edge_after v e (suc k))
      at_end k z m i = (step_edges k).only z (shares (vertex_after v e (suc k)) z m i)

      -- so far no vertex and no edge was met twice
      record IsFresh (n : ℕ) : Type 0 where
        pub vertices : (i j : ℕ) → i < j → j ≤ n → vertex_after v e i ≢ vertex_after v e j
        pub edges_too : (i j : ℕ) → i < j → j ≤ n → edge_after v e i ≢ edge_after v e j

      fresh_begun : IsFresh 0
      fresh_begun = record { vertices = λ i j l m. absurd (omega arith); edges_too = λ i j l m. absurd (omega arith) }

      -- a vertex that is not the first is new
      new_vertex : (n : ℕ) → IsFresh n → vertex_after v e (suc n) ≢ vertex_after v e 0 → (i : ℕ) → i ≤ n → vertex_after v e i ≢ vertex_after v e (suc n)
      new_vertex n f other zero l = λ q. other (sym q)
      new_vertex n f other (suc i) l = λ q.
          let k : In (vertex_after v e (suc i)) (facets_of space 1 (edge_after v e n)) = subst (λ (x : ℕ). In x (facets_of space 1 (edge_after v e n))) (sym q) (step_ends n).there_too in
          elim (at_end i (edge_after v e n) (at n).0 k) [
            | inl p ↦ f.edges_too i n (omega arith) (omega arith) (sym p)
            | inr p ↦
                elim (eqb_tells (suc i) n) [
                  | inl r ↦ (step_ends n).apart (sym q ∙ ap (vertex_after v e) r.1)
                  | inr r ↦ f.edges_too (suc i) n (omega (arith, l, r.1)) (omega arith) (sym p)
                ]
          ]

      new_edge : (n : ℕ) → IsFresh n → ((i : ℕ) → i ≤ n → vertex_after v e i ≢ vertex_after v e (suc n)) → (i : ℕ) → i ≤ n → edge_after v e i ≢ edge_after v e (suc n)
      new_edge n f new i l = λ q.
          let k : In (vertex_after v e (suc n)) (facets_of space 1 (edge_after v e i)) = subst (λ (x : ℕ). In (vertex_after v e (suc n)) (facets_of space 1 x)) (sym q) (at (suc n)).1 in
          elim ((step_ends i).only (vertex_after v e (suc n)) k) [
            | inl p ↦ new i l (sym p)
            | inr p ↦
                elim (eqb_tells i n) [
                  | inl r ↦ (step_edges n).apart (sym q ∙ ap (edge_after v e) r.1)
                  | inr r ↦ new (suc i) (omega (arith, l, r.1)) (sym p)
                ]
          ]

      fresh_more : (n : ℕ) → IsFresh n → vertex_after v e (suc n) ≢ vertex_after v e 0 → IsFresh (suc n)
      fresh_more n f other =
          record {
            vertices = λ i j l m. elim (eqb_tells j (suc n)) [
              | inl r ↦ subst (λ (x : ℕ). vertex_after v e i ≢ vertex_after v e x) (sym r.1) (new_vertex n f other i (omega (arith, l, r.1)))
              | inr r ↦ f.vertices i j l (omega (arith, m, r.1))
            ];
            edges_too = λ i j l m. elim (eqb_tells j (suc n)) [
              | inl r ↦ subst (λ (x : ℕ). edge_after v e i ≢ edge_after v e x) (sym r.1) (new_edge n f (new_vertex n f other) i (omega (arith, l, r.1)))
              | inr r ↦ f.edges_too i j l (omega (arith, m, r.1))
            ];
          }

      -- the walk came back to its first vertex with step p, and met none twice before
      record IsBack (p : ℕ) : Type 0 where
        pub back : vertex_after v e (suc p) ≡ vertex_after v e 0
        pub fresh : IsFresh p

      -- the edges of the first steps
      abbrev made : ℕ → List ℕ
      made n = map (edge_after v e) (range_with_len 0 n)

      made_inside : (n x : ℕ) → In x (made n) → In x edges
      made_inside n x i = let r = made-In (edge_after v e) n i in subst (λ (y : ℕ). In y edges) (sym r.2) (at r.0).0

      fresh_few : (n : ℕ) → IsFresh n → suc n ≤ length edges
      fresh_few n f =
          let l : length (made (suc n)) ≤ length edges = length-inside (made (suc n)) edges (apart-distinct (made (suc n)) (made-apart (edge_after v e) (suc n) (λ i j a b. f.edges_too i j a (omega arith)))) (made_inside (suc n)) in
          omega (arith, l, length-map-range_with_len (edge_after v e) 0 (suc n))

      back_or_fresh : (n : ℕ) → ((p : ℕ) × IsBack p) ⊎ IsFresh n
      back_or_fresh zero = inr fresh_begun
      back_or_fresh (suc n) =
          elim (back_or_fresh n) [
            | inl b ↦ inl b
            | inr f ↦
                elim (eqb_tells (vertex_after v e (suc n)) (vertex_after v e 0)) [
                  | inl r ↦ inl (n, record { back = r.1; fresh = f })
                  | inr r ↦ inr (fresh_more n f r.1)
                ]
          ]

      comes_back : (p : ℕ) × IsBack p
      comes_back = elim (back_or_fresh (length edges)) [ inl b ↦ b | inr f ↦ absurd (omega (arith, fresh_few (length edges) f)) ]

      module _ (p : ℕ) (b : IsBack p) where
        -- then it goes on along its first edge
        same_edge : edge_after v e (suc p) ≡ edge_after v e 0
        same_edge =
            let k : In (vertex_after v e (suc p)) (facets_of space 1 (edge_after v e 0)) = subst (λ (x : ℕ). In x (facets_of space 1 (edge_after v e 0))) (sym b.back) (at 0).1 in
            elim (at_end p (edge_after v e 0) (at 0).0 k) [
              | inl q ↦ absurd (by_place p b q)
              | inr q ↦ sym q
            ]
          where
            by_place : (n : ℕ) → IsBack n → edge_after v e 0 ≡ edge_after v e n → ⊥
            by_place zero c q = (step_ends 0).apart c.back
            by_place (suc n) c q = c.fresh.edges_too 0 (suc n) (omega arith) (omega arith) q

        next_in : (i : ℕ) → i ≤ p → In (edge_after v e (suc i)) (made (suc p))
        next_in i l =
            elim (eqb_tells i p) [
              | inl r ↦ subst (λ (x : ℕ). In x (made (suc p))) (sym (ap (λ (j : ℕ). edge_after v e (suc j)) r.1 ∙ same_edge)) (In-made (edge_after v e) (suc p) 0 (omega arith))
              | inr r ↦ In-made (edge_after v e) (suc p) (suc i) (omega (arith, l, r.1))
            ]

        end_in : (i z : ℕ) → i ≤ p → In z edges → In (vertex_after v e (suc i)) (facets_of space 1 z) → In z (made (suc p))
        end_in i z l m k =
            elim (at_end i z m k) [
              | inl q ↦ subst (λ (x : ℕ). In x (made (suc p))) (sym q) (In-made (edge_after v e) (suc p) i (omega arith))
              | inr q ↦ subst (λ (x : ℕ). In x (made (suc p))) (sym q) (next_in i l)
            ]

        -- an edge that meets one of the walk is one of the walk
        meets_in : (i z : ℕ) → i ≤ p → In z edges → meet space 1 (edge_after v e i) z ≡ true → In z (made (suc p))
        meets_in i z l m t =
            let s = any-some (λ f. holds (facets_of space 1 z) f) (facets_of space 1 (edge_after v e i)) t in
            let k : In s.0 (facets_of space 1 z) = holds-In (facets_of space 1 z) s.2 in
            elim ((step_ends i).only s.0 s.1) [
              | inl q ↦ at_start_of i l (subst (λ (x : ℕ). In x (facets_of space 1 z)) q k)
              | inr q ↦ end_in i z l m (subst (λ (x : ℕ). In x (facets_of space 1 z)) q k)
            ]
          where
            at_start_of : (j : ℕ) → j ≤ p → In (vertex_after v e j) (facets_of space 1 z) → In z (made (suc p))
            at_start_of zero l2 k = end_in p z (omega arith) m (subst (λ (x : ℕ). In x (facets_of space 1 z)) (sym b.back) k)
            at_start_of (suc j) l2 k = end_in j z (omega arith) m k

        reached_in : {y : ℕ} → Reaches (meet space 1) edges (edge_after v e 0) y → In y (made (suc p))
        reached_in at_start = In-made (edge_after v e) (suc p) 0 (omega arith)
        reached_in (on {y} {z} q t g) =
            let r = made-In (edge_after v e) (suc p) (reached_in q) in
            meets_in r.0 z (omega (arith, r.1)) (holds-In edges g) (subst (λ (x : ℕ). meet space 1 x z ≡ true) r.2 t)

        -- each edge is one of the walk
        all_in : (y : ℕ) → In y edges → In y (made (suc p))
        all_in y m =
            let c : ℕ = get_or edges 0 0 in
            let here_is : In c edges = at-In edges 0 0 (omega (arith, h.cell.some)) in
            let path : (z : ℕ) → In z edges → Reaches (meet space 1) edges c z = λ z n. (reaches_is (meet space 1) edges c z (In-holds here_is)).0 (all-In (reaches (meet space 1) edges c) h.one n) in
            reached_in (path_on (meet space 1) edges (path_back (meet space 1) edges (meet_same space) (In-holds here_is) (path (edge_after v e 0) (at 0).0)) (path y m))

        whole : suc p ≡ length edges
        whole =
            let l : length edges ≤ length (made (suc p)) = length-inside edges (made (suc p)) (distinct_rising edges h.cell.rises) all_in in
            omega (arith, l, length-map-range_with_len (edge_after v e) 0 (suc p), fresh_few p b.fresh)

        -- ---- the steps of the walk

        abbrev steps : List Step
        steps = walk space edges (length edges) v e

        abbrev places : List ℕ
        places = range_with_len 0 (length edges)

        -- what a function gives on the steps
        on_steps : (f : Step → ℕ) (g : ℕ → ℕ) → ((k : ℕ) → k < length edges → f (step_from space (vertex_after v e k) (edge_after v e k)) ≡ g k) → map f (walk space edges (length edges) v e) ≡ map g (range_with_len 0 (length edges))
        on_steps f g same =
            same_lists (map f steps) (map g places) (length-map steps f ∙ (length-walk (length edges) v e ∙ sym (length-map-range_with_len g 0 (length edges))))
            (λ k d l.
            let m : k < length edges = omega (arith, length-map steps f, length-walk (length edges) v e) in
            let s : Step = step_from space v e in
            get_or-map f steps k s d (omega (arith, length-walk (length edges) v e))
            ∙ (ap f (walk_at (length edges) v e k s m) ∙ (same k m ∙ sym (get_or-map-range_with_len g 0 (length edges) k k d m (omega arith)))))

        edges_made : map (λ (s : Step). s.edge) (walk space edges (length edges) v e) ≡ made (length edges)
        edges_made = on_steps (λ (s : Step). s.edge) (edge_after v e) (λ k l. refl)

        starts_made : map (start_of space) (walk space edges (length edges) v e) ≡ map (vertex_after v e) (range_with_len 0 (length edges))
        starts_made =
            on_steps (start_of space) (vertex_after v e)
            (λ k l. let a = at k in let t = two_ends (edge_after v e k) a.0 in own_end (facets_of space 1 (edge_after v e k)) (vertex_after v e k) t.0 t.1 a.1)

        ends_made : map (end_of space) (walk space edges (length edges) v e) ≡ map (λ k. vertex_after v e (suc k)) (range_with_len 0 (length edges))
        ends_made = on_steps (end_of space) (λ k. vertex_after v e (suc k)) (λ k l. sym (vertex_step v e k))

        -- the ends are the starts from the second on, and then the first
        turned : map (λ k. vertex_after v e (suc k)) (range_with_len 0 (suc p)) ≡ drop 1 (map (vertex_after v e) (range_with_len 0 (suc p))) ++ take 1 (map (vertex_after v e) (range_with_len 0 (suc p)))
        turned =
            let rest : List ℕ = map (vertex_after v e) (range_with_len 1 p) in
            same_lists (map (λ k. vertex_after v e (suc k)) (range_with_len 0 (suc p))) (map (vertex_after v e) (range_with_len 1 (p + 1)))
            (length-map-range_with_len (λ k. vertex_after v e (suc k)) 0 (suc p) ∙ (let q : suc p ≡ p + 1 = omega arith in q ∙ sym (length-map-range_with_len (vertex_after v e) 1 (p + 1))))
            (λ k d l.
            let m : k < suc p = omega (arith, length-map-range_with_len (λ k. vertex_after v e (suc k)) 0 (suc p)) in
            get_or-map-range_with_len (λ k. vertex_after v e (suc k)) 0 (suc p) k k d m (omega arith) ∙ sym (get_or-map-range_with_len (vertex_after v e) 1 (p + 1) k (suc k) d (omega arith) (omega arith)))
            ∙ (map-range_with_len_more (vertex_after v e) 1 p (suc p) (omega arith) ∙ ap (λ (x : ℕ). rest ++ x ∷ []) b.back)

        goes : GoesRound space edges (walk space edges (length edges) v e)
        goes =
            record {
              edges_are = λ x. ap (λ (xs : List ℕ). holds xs x) edges_made
                  ∙ both_ways (holds (made (length edges)) x) (holds edges x)
                  (λ t. In-holds (made_inside (length edges) x (holds-In (made (length edges)) t)))
                  (λ t. In-holds (subst (λ (n : ℕ). In x (made n)) whole (all_in x (holds-In edges t))));
              edges_once = subst (AllPairs (λ a c. a ≢ c)) (sym edges_made) (made-apart (edge_after v e) (length edges) (λ i j l m. b.fresh.edges_too i j l (omega (arith, whole, m))));
              closes = ends_made
                  ∙ (subst (λ (n : ℕ). map (λ k. vertex_after v e (suc k)) (range_with_len 0 n) ≡ drop 1 (map (vertex_after v e) (range_with_len 0 n)) ++ take 1 (map (vertex_after v e) (range_with_len 0 n))) whole turned
                  ∙ sym (ap (λ (xs : List ℕ). drop 1 xs ++ take 1 xs) starts_made));
              vertices_once = subst (AllPairs (λ a c. a ≢ c)) (sym starts_made) (made-apart (vertex_after v e) (length edges) (λ i j l m. b.fresh.vertices i j l (omega (arith, whole, m))));
            }

    -- the least vertex is on an edge
    least_on_edge : (e : ℕ) × In e edges × In (least_vertex space edges) (facets_of space 1 e)
    least_on_edge =
        let first_edge : ℕ = get_or edges 0 0 in
        let m : In first_edge edges = at-In edges 0 0 (omega (arith, h.cell.some)) in
        let first_vertex : ℕ = get_or (facets_of space 1 first_edge) 0 0 in
        let i : In first_vertex (facets_of space 1 first_edge) = at-In (facets_of space 1 first_edge) 0 0 (omega (arith, (two_ends first_edge m).0)) in
        let some : In first_vertex (facets_of_all space 0 edges) = In-all_facets space 0 edges h.valid (cell-In (count space 1) edges h.cell) first_edge first_vertex m i in
        all_facets-In space 0 edges (least_vertex space edges) (at-In (facets_of_all space 0 edges) 0 0 (omega (arith, (In-at some).1)))

    -- the first edge there is one of the edges there
    first_in : In (edge_at space edges (least_vertex space edges)) (sharing space 1 edges (least_vertex space edges))
    first_in =
        let l = least_on_edge in
        let i : In l.0 (sharing space 1 edges (least_vertex space edges)) = shares (least_vertex space edges) l.0 l.1 l.2 in
        at-In (sharing space 1 edges (least_vertex space edges)) 0 0 (omega (arith, (In-at i).1))

    pub cycle_goes : GoesRound space edges (cycle_along space edges)
    cycle_goes =
        let v : ℕ = least_vertex space edges in
        let e : ℕ = edge_at space edges (least_vertex space edges) in
        let edge_in : In e edges = In-inside (λ c. holds (facets_of space 1 c) v) edges first_in in
        let vertex_in : In v (facets_of space 1 e) = holds-In (facets_of space 1 e) (filter-In (λ c. holds (facets_of space 1 c) v) edges first_in) in
        let c = comes_back v e edge_in vertex_in in
        goes v e edge_in vertex_in c.0 c.1
