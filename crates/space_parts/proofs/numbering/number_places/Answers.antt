use Rattle.std.proofs.Common.{◌+◌, ◌-◌, ℕ, List, set, get_or, sym, subst, arith}
use Rattle.space_parts.proofs.Numbers.{IsCounted, counted-begun, count_few, counted-more}
use Rattle.space_parts.proofs.numbering.number_places.Goals as goal

pub loop-number-init : goal.loop-number-init
loop-number-init c = counted-begun c.args.numbers.now c.args.count c.in_ok-counts.counts.items c.new-places.result.items (c.in_ok-counts.ensures.items_if_clones_equal (λ y e. e)) c.new-places.ensures.items

pub overflow_add-index_mut : goal.overflow_add-index_mut
overflow_add-index_mut c =
    let few = count_few c.args.numbers.now c.args.count c.loop-number.number-index c.loop-number.counts.items c.loop-number.places.items c.loop-number.invariant c.loop-number-test.true c.requires.within c.index_mut.result.now c.index_mut.ensures.value in
    omega (arith, few, c.loop-number-test.true, c.requires.few)

pub loop-number-preserved : goal.loop-number-preserved
loop-number-preserved c =
    let i : ℕ = c.loop-number.number-index in
    let counts : List ℕ = c.loop-number.counts.items in
    subst (IsCounted c.args.numbers.now c.args.count (i + 1) (set counts (get_or c.args.numbers.now i 0 - 1) (c.index_mut.result.now + 1))) (sym c.in_ok-push.ensures.items)
    (counted-more c.args.numbers.now c.args.count i counts c.loop-number.places.items c.loop-number.invariant c.loop-number-test.true c.requires.within c.index_mut.result.now c.index.result.now c.index_mut.ensures.value c.index.ensures)
