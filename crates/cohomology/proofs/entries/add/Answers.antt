use Rattle.std.proofs.Common.{◌≡◌, ◌<◌, ◌+◌, ◌-◌, ℕ, List, get_or, set, ap, sym, ◌∙◌, arith}
use Rattle.linear_laws.proofs.CallerLemmas.{list_below}
use Rattle.cohomology.proofs.RowSteps.{added, added_more, not_added}
use Rattle.cohomology.proofs.entries.add.Goals as goal

pub loop-index-init : goal.loop-index-init
loop-index-init g c = not_added g.F.Field.ops 1 c.args.x.now c.args.y.now

pub get-requires-clause-last : goal.get-requires-clause-last
get-requires-clause-last g c = omega (arith, c.loop-index-test.true, c.loop-index.invariant.long, c.requires, c.len-index-end.ensures.len)

pub set-requires-clause-last : goal.set-requires-clause-last
set-requires-clause-last g c = omega (arith, c.loop-index-test.true, c.loop-index.invariant.long, c.requires, c.len-index-end.ensures.len)

pub loop-index-preserved : goal.loop-index-preserved
loop-index-preserved g c =
    let i : ℕ = c.loop-index.index in
    let x : List ℕ = c.loop-index.x in
    let y : List ℕ = c.args.y.now in
    let z : i + 1 - 1 ≡ i = omega arith in
    let low : get_or y i 0 < g.F.Field.ops.size = list_below g.F.Field.ops g.met.F.Field.laws y i c.len-index-end.ensures.elements in
    added_more g.F.Field.ops 1 i (g.F.Field.number_of c.add-sum.result) c.args.x.now y x c.set.new.self (omega (arith, c.loop-index-test.true, c.loop-index.invariant.long, c.requires, c.len-index-end.ensures.len)) c.loop-index.invariant
    (c.set.ensures ∙ ap (λ k. set x k (g.F.Field.number_of c.add-sum.result)) z)
    (c.add-sum.ensures ∙ ap (λ k. g.F.Field.ops.add k (g.F.Field.number_of c.get-in-loop-index.result)) (c.get.ensures ∙ ap (λ k. get_or x k 0) z)
    ∙ ap (g.F.Field.ops.add (get_or x i 0)) (c.get-in-loop-index.ensures ∙ ap (λ k. get_or y k 0) z ∙ sym (g.met.F.Field.laws.one_mul (get_or y i 0) low)))

pub returns : goal.returns
returns g c =
    added g.F.Field.ops g.met.F.Field.laws 1 c.len-index-end.result c.loop-index.index c.args.x.now c.args.y.now c.loop-index.x c.loop-index.invariant (omega (arith, c.loop-index-test.false)) (sym c.requires ∙ sym c.len-index-end.ensures.len)
    (sym c.len-index-end.ensures.len)
