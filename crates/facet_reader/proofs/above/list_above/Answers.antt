use Rattle.std.proofs.Common.{◌≡◌, ◌-◌, ◌+◌, ℕ, List, length, ap, sym, ◌∙◌, subst, arith}
use Rattle.facet_reader.specs.Chains.{pairs_of, AreNext}
use Rattle.facet_reader.proofs.AboveLemmas.{cofaces-at, cofaces-long, next-high, above-next, above-many, length-first}
use Rattle.facet_reader.proofs.above.list_above.Goals as goal

-- the next points as they were handed over
handed : (pairs : List (List ℕ)) (a : ℕ) (next given : List ℕ) → given ≡ next → AreNext (pairs_of pairs) a next → AreNext (pairs_of pairs) a given
handed pairs a next given e h = subst (AreNext (pairs_of pairs) a) (sym e) h

pub get-requires : goal.get-requires
get-requires c = omega (arith, c.loop-index-test.true, cofaces-long c.args.points c.args.pairs.now c.in_ok-by_point.by_point c.in_ok-by_point.ensures)

pub list_next-requires-clause-numbers : goal.list_next-requires-clause-numbers
list_next-requires-clause-numbers c =
    c.get.ensures
    ∙ cofaces-at c.args.points c.args.pairs.now c.in_ok-by_point.by_point (c.args.points - c.loop-index.index) c.in_ok-by_point.ensures (omega (arith, c.loop-index-test.true)) (omega arith)

pub join-requires-clause-points : goal.join-requires-clause-points
join-requires-clause-points c =
    λ k d l.
    (next-high c.args.points c.args.pairs.now (c.args.points - c.loop-index.index) c.deref.result.now k d c.requires.pairs
    (handed c.args.pairs.now (c.args.points - c.loop-index.index) c.list_next.new.next.items c.deref.result.now c.deref.ensures.value c.in_ok-list_next.ensures) l).1

pub join-requires-clause-there : goal.join-requires-clause-there
join-requires-clause-there c =
    λ k d l.
    let r =
    next-high c.args.points c.args.pairs.now (c.args.points - c.loop-index.index) c.deref.result.now k d c.requires.pairs
    (handed c.args.pairs.now (c.args.points - c.loop-index.index) c.list_next.new.next.items c.deref.result.now c.deref.ensures.value c.in_ok-list_next.ensures) l in
    omega (arith, r.0, r.1, c.loop-index-test.true, ap (λ (rows : List (List ℕ)). length rows) c.loop-index.invariant, length-first c.args.points (pairs_of c.args.pairs.now) c.loop-index.index)

pub returns-then-entries-gt-MOST_CELLS-clause-many : goal.returns-then-entries-gt-MOST_CELLS-clause-many
returns-then-entries-gt-MOST_CELLS-clause-many c =
    λ _. above-many c.args.points (pairs_of c.args.pairs.now) (c.loop-index.index + 1) c.push.new.self (omega (arith, c.loop-index-test.true))
    (above-next c.args.points c.args.pairs.now c.loop-index.index c.loop-index.above c.push.new.self c.deref.result.now c.deref-in-loop-index.result.now c.requires.pairs c.loop-index-test.true c.loop-index.invariant
    (handed c.args.pairs.now (c.args.points - c.loop-index.index) c.list_next.new.next.items c.deref.result.now c.deref.ensures.value c.in_ok-list_next.ensures)
    (c.deref-in-loop-index.ensures.value ∙ c.in_ok-join.ensures) c.in_ok-push.ensures.ok)
    (omega (arith, c.if-entries-gt-MOST_CELLS.true, ap (λ (xs : List ℕ). length xs) c.entries.ensures))

pub loop-index-preserved : goal.loop-index-preserved
loop-index-preserved c =
    above-next c.args.points c.args.pairs.now c.loop-index.index c.loop-index.above c.push.new.self c.deref.result.now c.deref-in-loop-index.result.now c.requires.pairs c.loop-index-test.true c.loop-index.invariant
    (handed c.args.pairs.now (c.args.points - c.loop-index.index) c.list_next.new.next.items c.deref.result.now c.deref.ensures.value c.in_ok-list_next.ensures)
    (c.deref-in-loop-index.ensures.value ∙ c.in_ok-join.ensures) c.in_ok-push.ensures.ok
