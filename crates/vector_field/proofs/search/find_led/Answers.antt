use Rattle.std.proofs.Common.{◌≡◌, ℕ, ◌<◌, ◌≤◌, List, length, get_or, ap, sym, ◌∙◌, subst, arith}
use Rattle.face_poset.specs.Poset.{count}
use Rattle.face_poset.specs.declared.cells.Pair.{Pair}
use Rattle.number_lists.specs.Found.{inserted}
use Rattle.vector_field.specs.Searches.{HasSteps}
use Rattle.number_lists.proofs.CallerLemmas.{In-holds, at-In}
use Rattle.vector_field.proofs.Led.{IsSearch, search_begun, search_more, search_tells}
use Rattle.vector_field.proofs.search.find_led.Goals as goal

pub loop-head-init : goal.loop-head-init
loop-head-init g c = (
  c.insert.ensures.most ∙ c.clear.ensures.most,
  subst (IsSearch (g.G.Graded.space c.args.graded.now) c.args.pairing.now.pairs c.args.dim c.args.last 0)
      (sym (c.in_ok-insert.ensures.found ∙ ap (λ (ns : List ℕ). inserted ns c.args.last) c.clear.ensures.found))
      (search_begun (g.G.Graded.space c.args.graded.now) c.args.pairing.now.pairs c.args.dim c.args.last c.requires.first c.requires.last),
)

-- what was found at a place is a cell that is there
found_cell : (space : List (List (List ℕ))) (pairs : List Pair) (dim last head : ℕ) (found : List ℕ) (facet : ℕ) → IsSearch space pairs dim last head found → head < length found → facet ≡ get_or found head 0 → (1 ≤ facet) × (facet ≤ count space dim)
found_cell space pairs dim last head found facet s l e = subst (λ (z : ℕ). (1 ≤ z) × (z ≤ count space dim)) (sym e) (s.range (get_or found head 0) (In-holds (at-In found head 0 l)))

pub find_steps-requires-clause-first : goal.find_steps-requires-clause-first
find_steps-requires-clause-first g c =
    (found_cell (g.G.Graded.space c.args.graded.now) c.args.pairing.now.pairs c.args.dim c.args.last c.loop-head.head c.loop-head.found.found c.get-facet.result c.loop-head.invariant.1 (omega (arith, c.loop-head-test.true, c.len.ensures.len)) c.get-facet.ensures.number).0

pub find_steps-requires-clause-last : goal.find_steps-requires-clause-last
find_steps-requires-clause-last g c =
    (found_cell (g.G.Graded.space c.args.graded.now) c.args.pairing.now.pairs c.args.dim c.args.last c.loop-head.head c.loop-head.found.found c.get-facet.result c.loop-head.invariant.1 (omega (arith, c.loop-head-test.true, c.len.ensures.len)) c.get-facet.ensures.number).1

pub loop-head-preserved : goal.loop-head-preserved
loop-head-preserved g c =
    let space : List (List (List ℕ)) = g.G.Graded.space c.args.graded.now in
    let pairs : List Pair = c.args.pairing.now.pairs in (
      c.find_steps.ensures.most ∙ c.loop-head.invariant.0,
      search_more space pairs c.args.dim c.args.last c.requires.field.incident c.loop-head.head c.loop-head.found.found c.find_steps.new.found.found (omega (arith, c.loop-head-test.true, c.len.ensures.len)) c.loop-head.invariant.1
          (subst (λ (f : ℕ). HasSteps space pairs c.args.dim f c.loop-head.found.found c.find_steps.new.found.found) c.get-facet.ensures.number c.in_ok-find_steps.ensures.steps),
    )

pub returns-clause-led : goal.returns-clause-led
returns-clause-led g c =
    search_tells (g.G.Graded.space c.args.graded.now) c.args.pairing.now.pairs c.args.dim c.args.last c.requires.field.incident c.loop-head.head c.loop-head.found.found (omega (arith, c.loop-head-test.false, c.len.ensures.len)) c.loop-head.invariant.1
