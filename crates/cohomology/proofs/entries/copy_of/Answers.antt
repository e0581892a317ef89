use Rattle.std.proofs.Common.{◌≡◌, ◌+◌, ◌-◌, get_or, set, ap, sym, ◌∙◌, arith}
use Rattle.cohomology.proofs.RowSteps.{copied, copied_more, not_copied}
use Rattle.cohomology.proofs.entries.copy_of.Goals as goal

pub loop-index-init : goal.loop-index-init
loop-index-init g c = not_copied c.len-count.result c.args.x.now c.in_ok-copy.copy c.in_ok-copy.ensures

pub get-requires-clause-last : goal.get-requires-clause-last
get-requires-clause-last g c = omega (arith, c.loop-index-test.true, c.len-count.ensures.len)

pub set-requires-clause-last : goal.set-requires-clause-last
set-requires-clause-last g c = omega (arith, c.loop-index-test.true, c.loop-index.invariant.long)

pub loop-index-preserved : goal.loop-index-preserved
loop-index-preserved g c =
    copied_more c.len-count.result c.loop-index.index (g.F.Field.number_of c.get.result) c.args.x.now c.loop-index.copy c.set.new.self c.loop-index-test.true c.loop-index.invariant (c.set.ensures ∙ ap (λ k. set c.loop-index.copy k (g.F.Field.number_of c.get.result)) (let z : c.loop-index.index + 1 - 1 ≡ c.loop-index.index = omega arith in z)) (c.get.ensures ∙ ap (λ k. get_or c.args.x.now k 0) (let z : c.loop-index.index + 1 - 1 ≡ c.loop-index.index = omega arith in z))

pub returns : goal.returns
returns g c = copied c.len-count.result c.loop-index.index c.args.x.now c.loop-index.copy c.loop-index.invariant (omega (arith, c.loop-index-test.false)) (sym c.len-count.ensures.len)
