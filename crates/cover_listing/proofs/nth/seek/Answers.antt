use Rattle.std.proofs.Common.{◌≤◌, [], ◌∷◌, ap, sym, subst, arith, length, length-append}
use Rattle.live_laws.specs.Live.{Relations}
use Rattle.cover_listing.proofs.Running.{so_far, turned}
use Rattle.cover_listing.proofs.Seeking.{found-one, is-found, is-only, is-spent}
use Rattle.cover_listing.proofs.nth.seek.Goals as goal

pub returns-then-count-index : goal.returns-then-count-index
returns-then-count-index c =
    let r = c.turns.invariant.runs in
    let turn = c.next.ensures.turn (subst (λ (P : Relations). 1 ≤ P.generators) (sym r.relations) c.requires.some) in
    is-found _ _ _ _ _ _ r c.next.ensures.budget c.next.ensures.goes c.requires.some c.args.index (turn.found.0 c.in-Found.is) (turn.table c.in-Found.is)
    (omega (arith, c.turns.invariant.counted, c.if-count-index.true))

pub turns-preserved : goal.turns-preserved
turns-preserved c =
    let r = c.turns.invariant.runs in
    let turn = c.next.ensures.turn (subst (λ (P : Relations). 1 ≤ P.generators) (sym r.relations) c.requires.some) in
    let more = found-one _ _ _ _ _ _ r c.next.ensures.budget c.next.ensures.goes c.requires.some (turn.found.0 c.in-Found.is) in
    let long = length-append (so_far c.args.search.now c.args.budget.now c.turns.budget) (c.next.new.self.position ∷ []) in
    record {
      runs = turned _ _ _ _ _ _ r c.next.ensures.budget c.next.ensures.goes;
      counted = omega (arith, c.turns.invariant.counted, ap length more, long);
      below = grind (arith, c.turns.invariant.below, c.if-count-index.false);
    }

pub returns-in-Done : goal.returns-in-Done
returns-in-Done c =
    let r = c.turns.invariant.runs in
    let turn = c.next.ensures.turn (subst (λ (P : Relations). 1 ≤ P.generators) (sym r.relations) c.requires.some) in
    is-only _ _ _ _ _ _ r c.next.ensures.budget c.next.ensures.goes c.requires.some c.args.index c.turns.count (turn.done.0 c.in-Done.is) c.turns.invariant.counted c.turns.invariant.below

pub returns-in-Spent : goal.returns-in-Spent
returns-in-Spent c =
    let r = c.turns.invariant.runs in
    let turn = c.next.ensures.turn (subst (λ (P : Relations). 1 ≤ P.generators) (sym r.relations) c.requires.some) in
    is-spent _ _ _ _ _ _ r c.next.ensures.budget c.next.ensures.goes c.requires.some c.args.index c.turns.count (turn.spent.0 c.in-Spent.is) c.turns.invariant.counted c.turns.invariant.below
