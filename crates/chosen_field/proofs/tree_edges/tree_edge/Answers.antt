use Rattle.std.proofs.Common.{◌≡◌, inl, inr, ◌+◌, ◌<◌, ◌&&◌, ℕ, List, Bool, false, eqb, length, get_or, sym, ◌∙◌, ap, subst, arith}
use Rattle.std.specs.List.{list_any}
use Rattle.std.proofs.lemmas.Bool.{and_left, and_right, cases_lt}
use Rattle.vector_field.specs.Stages.{is_left}
use Rattle.vector_field.proofs.CallerLemmas.{Coface, coface_at}
use Rattle.chosen_field.specs.Chosen.{distance_in}
use Rattle.chosen_field.proofs.Turns.{facets_all}
use Rattle.chosen_field.proofs.GivenUppers.{before, edge-found, edge-none}
use Rattle.chosen_field.proofs.tree_edges.tree_edge.Goals as goal
use Rattle.chosen_field.proofs.tree_edges.tree_edge.Goals.{else-flags-edge-via-then-flags-edge+else-has_before, else-flags-edge-via-else-flags-edge}

pub overflow_sub-edge : goal.overflow_sub-edge
overflow_sub-edge g c = (coface_at (g.G.Graded.space c.args.graded.now) 0 c.args.vertex c.cofaces-edges.result.now c.cofaces-edges.ensures.cofaces c.loop-edge.edge-index c.loop-edge-test.true).first

pub bounds-flags-edge : goal.bounds-flags-edge
bounds-flags-edge g c =
    let k : Coface (g.G.Graded.space c.args.graded.now) 0 c.args.vertex (get_or c.cofaces-edges.result.now c.loop-edge.edge-index 0) =
    coface_at (g.G.Graded.space c.args.graded.now) 0 c.args.vertex c.cofaces-edges.result.now c.cofaces-edges.ensures.cofaces c.loop-edge.edge-index c.loop-edge-test.true in
    omega (arith, k.first, k.last, c.requires.flags)

pub facets-requires-clause-first : goal.facets-requires-clause-first
facets-requires-clause-first g c = (coface_at (g.G.Graded.space c.args.graded.now) 0 c.args.vertex c.cofaces-edges.result.now c.cofaces-edges.ensures.cofaces c.loop-edge.edge-index c.loop-edge-test.true).first

pub facets-requires-clause-last : goal.facets-requires-clause-last
facets-requires-clause-last g c = (coface_at (g.G.Graded.space c.args.graded.now) 0 c.args.vertex c.cofaces-edges.result.now c.cofaces-edges.ensures.cofaces c.loop-edge.edge-index c.loop-edge-test.true).last

pub has_before-requires : goal.has_before-requires
has_before-requires g c =
    let k : Coface (g.G.Graded.space c.args.graded.now) 0 c.args.vertex (get_or c.cofaces-edges.result.now c.loop-edge.edge-index 0) =
    coface_at (g.G.Graded.space c.args.graded.now) 0 c.args.vertex c.cofaces-edges.result.now c.cofaces-edges.ensures.cofaces c.loop-edge.edge-index c.loop-edge-test.true in
    facets_all (g.G.Graded.space c.args.graded.now) 0 (get_or c.cofaces-edges.result.now c.loop-edge.edge-index 0) (length c.args.numbers.now) c.facets.result.now c.facets.ensures.valid k.first k.last c.facets.ensures.facets c.requires.numbers

pub returns-then-has_before : goal.returns-then-has_before
returns-then-has_before g c =
    edge-found (g.G.Graded.space c.args.graded.now) c.args.flags.now c.requires.flags c.args.numbers.now c.args.vertex c.cofaces-edges.result.now c.loop-edge.edge-index c.cofaces-edges.ensures.cofaces c.loop-edge-test.true c.if-flags-edge.true
    (sym (c.has_before.ensures ∙ ap (list_any (λ w. eqb (distance_in c.args.numbers.now w + 1) (distance_in c.args.numbers.now c.args.vertex))) c.facets.ensures.facets) ∙ c.if-has_before.true) c.loop-edge.invariant

-- one edge more that does not pass
one_more : (p : ℕ → Bool) (i : ℕ) → ((k : ℕ) → k < i → p k ≡ false) → p i ≡ false → (k : ℕ) → k < i + 1 → p k ≡ false
one_more p i h e k l = elim (cases_lt k i) [ inl m ↦ h k m | inr m ↦ subst (λ (j : ℕ). p j ≡ false) (let s : i ≡ k = omega (arith, l, m) in s) e ]

pub loop-edge-preserved : goal.loop-edge-preserved
loop-edge-preserved g c =
    let space : List (List (List ℕ)) = g.G.Graded.space c.args.graded.now in
    let edges : List ℕ = c.cofaces-edges.result.now in
    let edge : ℕ = get_or c.cofaces-edges.result.now c.loop-edge.edge-index 0 in
    one_more (λ k. is_left c.args.flags.now (get_or c.cofaces-edges.result.now k 0) && before (g.G.Graded.space c.args.graded.now) c.args.numbers.now c.args.vertex (get_or c.cofaces-edges.result.now k 0)) c.loop-edge.edge-index c.loop-edge.invariant
    (elim c.else-flags-edge.branch [
      | else-flags-edge-via-then-flags-edge+else-has_before w ↦
          and_right (is_left c.args.flags.now edge) (before space c.args.numbers.now c.args.vertex edge)
          (sym (w.has_before.ensures ∙ ap (list_any (λ w. eqb (distance_in c.args.numbers.now w + 1) (distance_in c.args.numbers.now c.args.vertex))) w.facets.ensures.facets) ∙ w.if-has_before.false)
      | else-flags-edge-via-else-flags-edge w ↦ and_left (is_left c.args.flags.now edge) (before space c.args.numbers.now c.args.vertex edge) w.if-flags-edge.false
    ])

pub returns : goal.returns
returns g c =
    edge-none (g.G.Graded.space c.args.graded.now) c.args.flags.now c.requires.flags c.args.numbers.now c.args.vertex c.cofaces-edges.result.now c.loop-edge.edge-index c.cofaces-edges.ensures.cofaces (omega (arith, c.loop-edge-test.false)) c.loop-edge.invariant
