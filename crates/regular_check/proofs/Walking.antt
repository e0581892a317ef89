-- The walk along the edges of a 2-cell.
use Rattle.std.proofs.Common.{◌≡◌, ℕ, zero, suc, ◌+◌, ◌-◌, ◌<◌, ◌≤◌, List, [], ◌∷◌, ◌++◌, Bool, true, false, not, cond, eqb, filter, length, get_or, refl, ap, sym, ◌∙◌, subst, arith}
use Rattle.std.specs.List.{list_any, sum}
use Rattle.std.specs.List.Sorted.{IsStrictlyIncreasing}
use Rattle.std.proofs.lemmas.Bool.{eq-eqb, ne_eqb, false_from_ne_true}
use Rattle.std.proofs.lemmas.List.{append_assoc}
use Rattle.std.proofs.lemmas.List.Kept.{IsStrictlyIncreasing-filter, AllPairs-from_increasing}
use Rattle.number_lists.specs.Words.{upto, holds}
use Rattle.face_poset.specs.Poset.{IsCell, count, facets_of}
use Rattle.number_lists.proofs.CallerLemmas.{get_or-upto, length-upto, filter-In, any-In, any-some, holds-In, In-holds, In-at, at-In}
use Rattle.regular_check.specs.declared.cycles.Step.{Step}
use Rattle.regular_check.specs.declared.tally.Tally.{Tally}
use Rattle.regular_check.specs.Rules.{sharing}
use Rattle.regular_check.specs.Tally.{other}
use Rattle.regular_check.specs.Cycle.{end_of, step_from, edge_at, other_edge, walk, least_vertex, cycle_along, IsFirstEdge, HasEnds}
use Rattle.number_lists.specs.Members.{In, here, there}
use Rattle.regular_check.proofs.Cells.{facets-cell}
use Rattle.regular_check.proofs.Searching.{IsReady, cell_low, pair, shares, sum_is, across_in, across_cell, sum_two}

-- the first element that passes a test
pub filter_first : (p : ℕ → Bool) (xs : List ℕ) (k : ℕ) → k < length xs → p (get_or xs k 0) ≡ true → ((j : ℕ) → j < k → p (get_or xs j 0) ≡ false) → get_or (filter p xs) 0 0 ≡ get_or xs k 0
filter_first p [] k l e h = absurd (omega arith)
filter_first p (x ∷ xs) zero l e h = ap (λ (b : Bool). get_or (cond b (x ∷ filter p xs) (filter p xs)) 0 0) e
filter_first p (x ∷ xs) (suc k) l e h =
    ap (λ (b : Bool). get_or (cond b (x ∷ filter p xs) (filter p xs)) 0 0) (h zero (omega arith)) ∙ filter_first p xs k (omega arith) e (λ j m. h (suc j) (omega arith))

-- of two different numbers the one that is not e
pub other_first : (xs : List ℕ) (e : ℕ) → length xs ≡ 2 → IsStrictlyIncreasing xs → In e xs → get_or (filter (λ x. not (eqb x e)) xs) 0 0 ≡ sum xs - e
other_first [] e l h m = absurd (omega arith)
other_first (a ∷ []) e l h m = absurd (omega arith)
other_first (a ∷ b ∷ []) e l h here =
    let lt : a < b = h 0 (omega arith) in
    filter_first (λ x. not (eqb x a)) (a ∷ b ∷ []) 1 (omega arith) (ap not (ne_eqb b a (λ q. omega (arith, lt, q)))) (λ j m. (let z : j ≡ 0 = omega arith in ap (λ (i : ℕ). not (eqb (get_or (a ∷ b ∷ []) i 0) a)) z ∙ ap not (eq-eqb a a refl)))
    ∙ omega (arith, sum_two a b)
other_first (a ∷ b ∷ []) e l h (there here) =
    let lt : a < b = h 0 (omega arith) in
    filter_first (λ x. not (eqb x b)) (a ∷ b ∷ []) 0 (omega arith) (ap not (ne_eqb a b (λ q. omega (arith, lt, q)))) (λ j m. absurd (omega arith))
    ∙ omega (arith, sum_two a b)
other_first (a ∷ b ∷ []) e l h (there (there m)) = elim m [ ]
other_first (a ∷ b ∷ c ∷ xs) e l h m = absurd (omega arith)

-- the first of an increasing list is the least
pub low_least : (fs : List ℕ) (m : ℕ) → IsStrictlyIncreasing fs → In m fs → get_or fs 0 0 ≤ m
low_least fs m h i = by_place (In-at i).0 (In-at i).1 (In-at i).2
  where
    by_place : (k : ℕ) → k < length fs → get_or fs k 0 ≡ m → get_or fs 0 0 ≤ m
    by_place zero l e = omega (arith, e)
    by_place (suc k) l e = omega (arith, AllPairs-from_increasing fs h 0 (suc k) 0 (omega arith) l, e)

module _ (space : List (List (List ℕ))) (edges : List ℕ) (tallies : List Tally) where
  edge_facets : IsReady space 1 edges tallies → (e : ℕ) → In e edges → IsCell (count space 0) (facets_of space 1 e)
  edge_facets h e m = let w = cell_low space 1 edges tallies h e m in facets-cell space 1 e (count space 0) h.valid (omega arith) w.0 w.1 (omega arith)

  module _ (h : IsReady space 1 edges tallies) (edge : ℕ) (f : IsFirstEdge space edges (length edges) edge) where
    member : In edge edges
    member = subst (λ (e : ℕ). In e edges) f.here (at-In edges f.place 0 f.within)

    vertex : ℕ
    vertex = get_or (facets_of space 1 edge) 0 0

    -- no edge has a smaller vertex
    smaller : (e m : ℕ) → In e edges → In m (facets_of space 1 e) → get_or (facets_of space 1 edge) 0 0 ≤ m
    smaller e m i k =
        let a = In-at i in
        let low : get_or (facets_of space 1 e) 0 0 ≤ m = low_least (facets_of space 1 e) m (edge_facets h e i).rises k in
        let l = f.least a.0 a.1 in
        omega (arith, low, l, ap (λ (x : ℕ). get_or (facets_of space 1 x) 0 0) a.2)

    least_is : least_vertex space edges ≡ get_or (facets_of space 1 edge) 0 0
    least_is =
        let v : ℕ = get_or (facets_of space 1 edge) 0 0 in
        let has : In v (facets_of space 1 edge) = at-In (facets_of space 1 edge) 0 0 (omega (arith, (edge_facets h edge member).some)) in
        let w = (edge_facets h edge member).within 0 0 (omega (arith, (edge_facets h edge member).some)) in
        let p : ℕ → Bool = λ m. list_any (λ c. holds (facets_of space 1 c) m) edges in
        let at : get_or (upto (count space 0)) (v - 1) 0 ≡ v = get_or-upto (count space 0) (v - 1) (omega (arith, w.0, w.1)) ∙ omega (arith, w.0) in
        filter_first p (upto (count space 0)) (v - 1) (omega (arith, length-upto (count space 0), w.0, w.1))
        (ap p at ∙ any-In (λ c. holds (facets_of space 1 c) v) member (In-holds has))
        (λ j l.
        let to : get_or (upto (count space 0)) j 0 ≡ j + 1 = get_or-upto (count space 0) j (omega (arith, l, w.0, w.1)) in
        false_from_ne_true (p (get_or (upto (count space 0)) j 0))
        (λ e. let s = any-some (λ c. holds (facets_of space 1 c) (get_or (upto (count space 0)) j 0)) edges e in omega (arith, smaller s.0 (get_or (upto (count space 0)) j 0) s.1 (holds-In (facets_of space 1 s.0) s.2), to, l)))
        ∙ at

    first_is : edge_at space edges (get_or (facets_of space 1 edge) 0 0) ≡ edge
    first_is =
        let v : ℕ = get_or (facets_of space 1 edge) 0 0 in
        let has : In v (facets_of space 1 edge) = at-In (facets_of space 1 edge) 0 0 (omega (arith, (edge_facets h edge member).some)) in
        filter_first (λ c. holds (facets_of space 1 c) v) edges f.place f.within
        (ap (λ (x : ℕ). holds (facets_of space 1 x) v) f.here ∙ In-holds has)
        (λ j l.
        let i : In (get_or edges j 0) edges = at-In edges j 0 (omega (arith, l, f.within)) in
        false_from_ne_true (holds (facets_of space 1 (get_or edges j 0)) v)
        (λ e. omega (arith, low_least (facets_of space 1 (get_or edges j 0)) v (edge_facets h (get_or edges j 0) i).rises (holds-In (facets_of space 1 (get_or edges j 0)) e), f.before j l)))
        ∙ f.here

    pub cycle_begins : walk space edges (length edges) (get_or (facets_of space 1 edge) 0 0) edge ≡ cycle_along space edges
    cycle_begins =
        sym (ap (λ (v : ℕ). walk space edges (length edges) v (edge_at space edges v)) least_is ∙ ap (λ (e : ℕ). walk space edges (length edges) (get_or (facets_of space 1 edge) 0 0) e) first_is)

    pub begins_in : In edge edges × In (get_or (facets_of space 1 edge) 0 0) (facets_of space 1 edge)
    begins_in = (member, at-In (facets_of space 1 edge) 0 0 (omega (arith, (edge_facets h edge member).some)))

  -- the edge across a vertex
  pub other_is_across : IsReady space 1 edges tallies → (e v : ℕ) → In e edges → In v (facets_of space 1 e) → other_edge space edges v e ≡ other tallies e v
  other_is_across h e v m k =
      other_first (sharing space 1 edges v) e (pair space 1 edges tallies h e v m k) (IsStrictlyIncreasing-filter (λ c. holds (facets_of space 1 c) v) edges h.cell.rises) (shares space 1 edges tallies e v m k)
      ∙ ap (λ (s : ℕ). s - e) (sym (sum_is space 1 edges tallies h e v m k))

  -- the end of a step is a vertex of its edge
  pub end_in : IsReady space 1 edges tallies → HasEnds space (count space 1) → (e : ℕ) (b : Bool) → In e edges → In (get_or (facets_of space 1 e) (cond b 1 0) 0) (facets_of space 1 e)
  end_in h two e b m =
      let w = cell_low space 1 edges tallies h e m in
      at-In (facets_of space 1 e) (cond b 1 0) 0 (by_test b (two e w.0 w.1))
    where
      by_test : (b : Bool) → length (facets_of space 1 e) ≡ 2 → cond b 1 0 < length (facets_of space 1 e)
      by_test true l = omega arith
      by_test false l = omega arith

  -- one step of the walk
  pub walk_step : (i v e : ℕ) → i < length edges → walk space edges (length edges - i) v e
      ≡ step_from space v e ∷ walk space edges (length edges - (i + 1)) (end_of space (step_from space v e)) (other_edge space edges (end_of space (step_from space v e)) e)
  walk_step i v e l = let q : length edges - i ≡ suc (length edges - (i + 1)) = omega arith in ap (λ (n : ℕ). walk space edges n v e) q

  -- the state of the walk: what was put down, and what is left
  pub record IsWalk (before steps : List Step) (i v e : ℕ) : Type 0 where
    pub edge_in : In e edges
    pub vertex_in : In v (facets_of space 1 e)
    pub rest : steps ++ walk space edges (length edges - i) v e ≡ before ++ cycle_along space edges

  pub walk_begun : IsReady space 1 edges tallies → (before : List Step) (e : ℕ) → IsFirstEdge space edges (length edges) e → IsWalk before before 0 (get_or (facets_of space 1 e) 0 0) e
  walk_begun h before e f =
      let q : length edges - 0 ≡ length edges = omega arith in
      record {
        edge_in = (begins_in h e f).0;
        vertex_in = (begins_in h e f).1;
        rest = ap (λ (ss : List Step). before ++ ss) (ap (λ (n : ℕ). walk space edges n (get_or (facets_of space 1 e) 0 0) e) q ∙ cycle_begins h e f);
      }

  pub walk_on : IsReady space 1 edges tallies → HasEnds space (count space 1) → (before steps : List Step) (i v e : ℕ) → i < length edges → IsWalk before steps i v e
      → IsWalk before (steps ++ step_from space v e ∷ []) (i + 1) (end_of space (step_from space v e)) (other tallies e (end_of space (step_from space v e)))
  walk_on h two before steps i v e l w =
      let s : Step = step_from space v e in
      let u : ℕ = end_of space s in
      let k : In u (facets_of space 1 e) = end_in h two e s.forward w.edge_in in
      let across : other_edge space edges u e ≡ other tallies e u = other_is_across h e u w.edge_in k in
      record {
        edge_in = across_cell space 1 edges tallies h e u w.edge_in k;
        vertex_in = across_vertex h e u w.edge_in k;
        rest =
            append_assoc steps (s ∷ []) (walk space edges (length edges - (i + 1)) u (other tallies e u))
            ∙ (ap (λ (x : ℕ). steps ++ s ∷ walk space edges (length edges - (i + 1)) u x) (sym across)
            ∙ (ap (λ (ss : List Step). steps ++ ss) (sym (walk_step i v e l)) ∙ w.rest));
      }
    where
      across_vertex : IsReady space 1 edges tallies → (e u : ℕ) → In e edges → In u (facets_of space 1 e) → In u (facets_of space 1 (other tallies e u))
      across_vertex h e u m k = holds-In (facets_of space 1 (other tallies e u)) (filter-In (λ c. holds (facets_of space 1 c) u) edges (across_in space 1 edges tallies h e u m k))
