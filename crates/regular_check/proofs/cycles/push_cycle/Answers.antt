use Rattle.std.proofs.Common.{◌≡◌, ◌<◌, ◌≤◌, ◌+◌, ◌-◌, ◌++◌, ◌∷◌, [], ℕ, List, Bool, eqb, cond, length, get_or, ap, sym, ◌∙◌, subst, arith, true}
use Rattle.std.proofs.lemmas.List.{append-nil}
use Rattle.face_poset.specs.Poset.{IsCell, IsSpace, count, facets_of}
use Rattle.regular_check.specs.declared.cycles.Step.{Step}
use Rattle.regular_check.specs.declared.tally.Tally.{Tally}
use Rattle.regular_check.specs.Rules.{each_twice}
use Rattle.regular_check.specs.Tally.{IsTally, other, tally_at}
use Rattle.regular_check.specs.Cycle.{end_of, step_from, walk, HasEnds}
use Rattle.number_lists.specs.Members.{In}
use Rattle.number_lists.proofs.CallerLemmas.{In-at}
use Rattle.regular_check.proofs.Cells.{facets-cell}
use Rattle.regular_check.proofs.Searching.{IsReady, cell_low, others_are}
use Rattle.regular_check.proofs.Walking.{IsWalk, walk_begun, walk_on, end_in}
use Rattle.regular_check.proofs.cycles.push_cycle.Goals as goal

-- what the conditions of the call say
ready : (space : List (List (List ℕ))) (edges : List ℕ) (tallies : List Tally) → IsSpace space → IsCell (count space 1) edges → count space 1 ≤ 60000 → count space 0 ≤ length tallies → IsTally space 1 edges tallies
    → each_twice space 1 edges ≡ true → IsReady space 1 edges tallies
ready space edges tallies valid cell few room tally twice = record { valid = valid; low = omega arith; cell = cell; few = few; room = room; tally = tally; twice = twice }

-- what is known at a vertex of an edge
record IsThere (space : List (List (List ℕ))) (tallies : List Tally) (e u : ℕ) : Type 0 where
  pub low : 1 ≤ u
  pub high : u ≤ length tallies
  pub sum : e ≤ (tally_at tallies (u - 1)).sum
  pub small : other tallies e u ≤ 4294967295

is_there : (space : List (List (List ℕ))) (edges : List ℕ) (tallies : List Tally) → IsReady space 1 edges tallies → (e u : ℕ) → In e edges → In u (facets_of space 1 e) → IsThere space tallies e u
is_there space edges tallies h e u m i =
    let a = In-at i in
    let w = cell_low space 1 edges tallies h e m in
    let f : IsCell (length tallies) (facets_of space 1 e) = facets-cell space 1 e (length tallies) h.valid h.low w.0 w.1 h.room in
    let r = f.within a.0 0 a.1 in
    let o = others_are space 1 edges tallies h e (count space 1) m (omega arith) a.0 0 a.1 in
    subst (IsThere space tallies e) a.2 (record { low = r.0; high = r.1; sum = omega (arith, o.0); small = o.2 })

pub loop-turn-init : goal.loop-turn-init
loop-turn-init c =
    subst (λ (v : ℕ). IsWalk c.args.space.now c.args.edges.now c.args.tallies.now c.args.steps.now.items c.args.steps.now.items 0 v c.first_edge-edge.result) (sym c.first_end-vertex.ensures)
    (walk_begun c.args.space.now c.args.edges.now c.args.tallies.now (ready c.args.space.now c.args.edges.now c.args.tallies.now c.requires.valid c.requires.edges c.requires.few c.requires.room c.requires.tally c.requires.twice)
    c.args.steps.now.items c.first_edge-edge.result c.first_edge-edge.ensures)

pub first_end-requires-clause-first : goal.first_end-requires-clause-first
first_end-requires-clause-first c =
    (cell_low c.args.space.now 1 c.args.edges.now c.args.tallies.now (ready c.args.space.now c.args.edges.now c.args.tallies.now c.requires.valid c.requires.edges c.requires.few c.requires.room c.requires.tally c.requires.twice) c.loop-turn.edge c.loop-turn.invariant.edge_in).0

pub first_end-requires-clause-last : goal.first_end-requires-clause-last
first_end-requires-clause-last c =
    (cell_low c.args.space.now 1 c.args.edges.now c.args.tallies.now (ready c.args.space.now c.args.edges.now c.args.tallies.now c.requires.valid c.requires.edges c.requires.few c.requires.room c.requires.tally c.requires.twice) c.loop-turn.edge c.loop-turn.invariant.edge_in).1

pub step_end-vertex-requires-clause-first : goal.step_end-vertex-requires-clause-first
step_end-vertex-requires-clause-first c =
    (cell_low c.args.space.now 1 c.args.edges.now c.args.tallies.now (ready c.args.space.now c.args.edges.now c.args.tallies.now c.requires.valid c.requires.edges c.requires.few c.requires.room c.requires.tally c.requires.twice) c.loop-turn.edge c.loop-turn.invariant.edge_in).0

pub step_end-vertex-requires-clause-last : goal.step_end-vertex-requires-clause-last
step_end-vertex-requires-clause-last c =
    (cell_low c.args.space.now 1 c.args.edges.now c.args.tallies.now (ready c.args.space.now c.args.edges.now c.args.tallies.now c.requires.valid c.requires.edges c.requires.few c.requires.room c.requires.tally c.requires.twice) c.loop-turn.edge c.loop-turn.invariant.edge_in).1

-- the vertex at the end of a step
there_at : (space : List (List (List ℕ))) (edges : List ℕ) (tallies : List Tally) → IsReady space 1 edges tallies → HasEnds space (count space 1) → (e u : ℕ) (b : Bool) → In e edges → u ≡ get_or (facets_of space 1 e) (cond b 1 0) 0 → IsThere space tallies e u
there_at space edges tallies h two e u b m q = is_there space edges tallies h e u m (subst (λ (x : ℕ). In x (facets_of space 1 e)) (sym q) (end_in space edges tallies h two e b m))

pub edge_across-edge-requires-clause-first : goal.edge_across-edge-requires-clause-first
edge_across-edge-requires-clause-first c =
    (there_at c.args.space.now c.args.edges.now c.args.tallies.now (ready c.args.space.now c.args.edges.now c.args.tallies.now c.requires.valid c.requires.edges c.requires.few c.requires.room c.requires.tally c.requires.twice)
    c.requires.ends c.loop-turn.edge c.step_end-vertex.result (eqb c.first_end.result c.loop-turn.vertex) c.loop-turn.invariant.edge_in c.step_end-vertex.ensures).low

pub edge_across-edge-requires-clause-last : goal.edge_across-edge-requires-clause-last
edge_across-edge-requires-clause-last c =
    (there_at c.args.space.now c.args.edges.now c.args.tallies.now (ready c.args.space.now c.args.edges.now c.args.tallies.now c.requires.valid c.requires.edges c.requires.few c.requires.room c.requires.tally c.requires.twice)
    c.requires.ends c.loop-turn.edge c.step_end-vertex.result (eqb c.first_end.result c.loop-turn.vertex) c.loop-turn.invariant.edge_in c.step_end-vertex.ensures).high

pub edge_across-edge-requires-clause-high : goal.edge_across-edge-requires-clause-high
edge_across-edge-requires-clause-high c =
    (there_at c.args.space.now c.args.edges.now c.args.tallies.now (ready c.args.space.now c.args.edges.now c.args.tallies.now c.requires.valid c.requires.edges c.requires.few c.requires.room c.requires.tally c.requires.twice)
    c.requires.ends c.loop-turn.edge c.step_end-vertex.result (eqb c.first_end.result c.loop-turn.vertex) c.loop-turn.invariant.edge_in c.step_end-vertex.ensures).sum

pub edge_across-edge-requires-clause-small : goal.edge_across-edge-requires-clause-small
edge_across-edge-requires-clause-small c =
    (there_at c.args.space.now c.args.edges.now c.args.tallies.now (ready c.args.space.now c.args.edges.now c.args.tallies.now c.requires.valid c.requires.edges c.requires.few c.requires.room c.requires.tally c.requires.twice)
    c.requires.ends c.loop-turn.edge c.step_end-vertex.result (eqb c.first_end.result c.loop-turn.vertex) c.loop-turn.invariant.edge_in c.step_end-vertex.ensures).small

-- the state after a turn
turned : (space : List (List (List ℕ))) (edges : List ℕ) (tallies : List Tally) → IsReady space 1 edges tallies → HasEnds space (count space 1) → (before steps new : List Step) (i v e first u next : ℕ) → i < length edges
    → IsWalk space edges tallies before steps i v e → first ≡ get_or (facets_of space 1 e) 0 0 → new ≡ steps ++ (record { edge = e; forward = eqb first v }) ∷ [] → u ≡ get_or (facets_of space 1 e) (cond (eqb first v) 1 0) 0
    → next ≡ other tallies e u → IsWalk space edges tallies before new (i + 1) u next
turned space edges tallies h two before steps new i v e first u next l w f is at across =
    let b : Bool = eqb (get_or (facets_of space 1 e) 0 0) v in
    let same : new ≡ steps ++ step_from space v e ∷ [] = is ∙ ap (λ (n : ℕ). steps ++ (record { edge = e; forward = eqb n v }) ∷ []) f in
    let there : u ≡ end_of space (step_from space v e) = at ∙ ap (λ (n : ℕ). get_or (facets_of space 1 e) (cond (eqb n v) 1 0) 0) f in
    let then : next ≡ other tallies e (end_of space (step_from space v e)) = across ∙ ap (other tallies e) there in
    subst (λ (n : ℕ). IsWalk space edges tallies before new (i + 1) u n) (sym then)
    (subst (λ (n : ℕ). IsWalk space edges tallies before new (i + 1) n (other tallies e (end_of space (step_from space v e)))) (sym there)
    (subst (λ (ss : List Step). IsWalk space edges tallies before ss (i + 1) (end_of space (step_from space v e)) (other tallies e (end_of space (step_from space v e)))) (sym same)
    (walk_on space edges tallies h two before steps i v e l w)))

pub loop-turn-preserved : goal.loop-turn-preserved
loop-turn-preserved c =
    turned c.args.space.now c.args.edges.now c.args.tallies.now (ready c.args.space.now c.args.edges.now c.args.tallies.now c.requires.valid c.requires.edges c.requires.few c.requires.room c.requires.tally c.requires.twice) c.requires.ends
    c.args.steps.now.items c.loop-turn.steps.items c.push.new.self.items c.loop-turn._turn c.loop-turn.vertex c.loop-turn.edge c.first_end.result c.step_end-vertex.result c.edge_across-edge.result
    (omega (arith, c.loop-turn-test.true)) c.loop-turn.invariant c.first_end.ensures c.in_ok-push.ensures.items c.step_end-vertex.ensures c.edge_across-edge.ensures

pub returns : goal.returns
returns c =
    let none : length c.args.edges.now - c.loop-turn._turn ≡ 0 = omega (arith, c.loop-turn-test.false) in
    sym (append-nil c.loop-turn.steps.items)
    ∙ (ap (λ (n : ℕ). c.loop-turn.steps.items ++ walk c.args.space.now c.args.edges.now n c.loop-turn.vertex c.loop-turn.edge) (sym none) ∙ c.loop-turn.invariant.rest)
