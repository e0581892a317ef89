use Rattle.std.proofs.Common.{ℕ, List, ◌++◌, ◌∷◌, [], take, get_or, sym, ◌∙◌, ap, subst, arith}
use Rattle.std.proofs.lemmas.List.{take_more, take_all}
use Rattle.number_lists.specs.Found.{Numbers}
use Rattle.vector_field.proofs.CallerLemmas.{Coface, coface_at}
use Rattle.chosen_field.proofs.Turns.{facets_all}
use Rattle.chosen_field.proofs.Visits.{IsPart, part-none, part-flagged, part-other, part-all}
use Rattle.chosen_field.proofs.distances.visit.Goals as goal
use Rattle.chosen_field.proofs.distances.visit.Goals.{then-flags-edge+in_ok-insert_all, else-flags-edge}

-- an edge at the vertex is there
pub overflow_sub-edge : goal.overflow_sub-edge
overflow_sub-edge g c = (coface_at (g.G.Graded.space c.args.graded.now) 0 c.args.vertex c.cofaces-edges.result.now c.cofaces-edges.ensures.cofaces c.loop-edge.edge-index c.loop-edge-test.true).first

pub bounds-flags-edge : goal.bounds-flags-edge
bounds-flags-edge g c =
    let k : Coface (g.G.Graded.space c.args.graded.now) 0 c.args.vertex (get_or c.cofaces-edges.result.now c.loop-edge.edge-index 0) =
    coface_at (g.G.Graded.space c.args.graded.now) 0 c.args.vertex c.cofaces-edges.result.now c.cofaces-edges.ensures.cofaces c.loop-edge.edge-index c.loop-edge-test.true in
    omega (arith, k.first, k.last, c.requires.flags)

pub facets-requires-clause-first : goal.facets-requires-clause-first
facets-requires-clause-first g c = (coface_at (g.G.Graded.space c.args.graded.now) 0 c.args.vertex c.cofaces-edges.result.now c.cofaces-edges.ensures.cofaces c.loop-edge.edge-index c.loop-edge-test.true).first

pub facets-requires-clause-last : goal.facets-requires-clause-last
facets-requires-clause-last g c = (coface_at (g.G.Graded.space c.args.graded.now) 0 c.args.vertex c.cofaces-edges.result.now c.cofaces-edges.ensures.cofaces c.loop-edge.edge-index c.loop-edge-test.true).last

pub insert_all-requires : goal.insert_all-requires
insert_all-requires g c =
    let k : Coface (g.G.Graded.space c.args.graded.now) 0 c.args.vertex (get_or c.cofaces-edges.result.now c.loop-edge.edge-index 0) =
    coface_at (g.G.Graded.space c.args.graded.now) 0 c.args.vertex c.cofaces-edges.result.now c.cofaces-edges.ensures.cofaces c.loop-edge.edge-index c.loop-edge-test.true in
    facets_all (g.G.Graded.space c.args.graded.now) 0 (get_or c.cofaces-edges.result.now c.loop-edge.edge-index 0) c.loop-edge.found.most c.facets.result.now c.facets.ensures.valid k.first k.last c.facets.ensures.facets (c.loop-edge.invariant.0 ∙ c.requires.most)

pub loop-edge-init : goal.loop-edge-init
loop-edge-init g c = (omega arith, part-none (g.G.Graded.space c.args.graded.now) c.args.flags.now c.args.found.now.found)

pub loop-edge-preserved : goal.loop-edge-preserved
loop-edge-preserved g c =
    let space : List (List (List ℕ)) = g.G.Graded.space c.args.graded.now in
    let edges : List ℕ = c.cofaces-edges.result.now in
    let i : ℕ = c.loop-edge.edge-index in
    let old : List ℕ = c.args.found.now.found in
    let now : List ℕ = c.loop-edge.found.found in
    elim c.if-flags-edge.branch [
      | then-flags-edge+in_ok-insert_all w ↦ (
        ap (λ (n : Numbers). n.most) w.found-is ∙ (w.insert_all.ensures.most ∙ c.loop-edge.invariant.0),
        subst (λ (es : List ℕ). IsPart space c.args.flags.now es old c.if-flags-edge.found.found) (sym (take_more edges i 0 c.loop-edge-test.true))
            (part-flagged space c.args.flags.now (take i edges) old now c.if-flags-edge.found.found w.facets.result.now (get_or edges i 0) w.if-flags-edge.true w.facets.ensures.facets
            (ap (λ (n : Numbers). n.found) w.found-is ∙ w.in_ok-insert_all.ensures.found) c.loop-edge.invariant.1),
      )
      | else-flags-edge w ↦ (
        ap (λ (n : Numbers). n.most) w.found-is ∙ c.loop-edge.invariant.0,
        subst (λ (es : List ℕ). IsPart space c.args.flags.now es old c.if-flags-edge.found.found) (sym (take_more edges i 0 c.loop-edge-test.true))
            (subst (λ (n : Numbers). IsPart space c.args.flags.now (take i edges ++ get_or edges i 0 ∷ []) old n.found) (sym w.found-is)
            (part-other space c.args.flags.now (take i edges) old now (get_or edges i 0) w.if-flags-edge.false c.loop-edge.invariant.1)),
      )
    ]

pub returns-clause-found : goal.returns-clause-found
returns-clause-found g c =
    part-all (g.G.Graded.space c.args.graded.now) c.args.flags.now c.args.vertex c.cofaces-edges.result.now c.args.found.now.found c.loop-edge.found.found c.requires.flags c.cofaces-edges.ensures.cofaces
    (subst (λ (es : List ℕ). IsPart (g.G.Graded.space c.args.graded.now) c.args.flags.now es c.args.found.now.found c.loop-edge.found.found)
    (take_all c.loop-edge.edge-index c.cofaces-edges.result.now (omega (arith, c.loop-edge-test.false))) c.loop-edge.invariant.1)
