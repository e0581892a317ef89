use Rattle.std.proofs.Common.{◌-◌, ℕ, List, get_or, refl, subst, arith}
use Rattle.std.proofs.lemmas.List.{take_all}
use Rattle.pair_stages.proofs.Searched.{IsListed, listed_more, listed_sorted}
use Rattle.pair_stages.proofs.reach.list_order.Goals as goal

pub loop-index-preserved : goal.loop-index-preserved
loop-index-preserved g c =
    listed_more c.args.next.now.kinds c.args.indexes.now c.args.found.now.found c.loop-index.order.items c.push_index.new.order.items c.loop-index.index c.get-place.result (get_or c.args.indexes.now (c.get-place.result - 1) 0) c.kind.result
    (omega (arith, c.loop-index-test.true, c.len-index-end.ensures.len)) c.get-place.ensures.number c.get-place.ensures.first (omega (arith, c.get-place.ensures.last, c.requires.most)) c.kind.ensures refl c.in_ok-push_index.ensures c.loop-index.invariant

pub returns : goal.returns
returns g c =
    listed_sorted c.args.next.now.kinds c.args.indexes.now c.args.found.now.found c.loop-index.order.items c.sort_once.new.numbers.items
    (subst (λ (ys : List ℕ). IsListed c.args.next.now.kinds c.args.indexes.now ys c.loop-index.order.items) (take_all c.loop-index.index c.args.found.now.found (omega (arith, c.loop-index-test.false, c.len-index-end.ensures.len))) c.loop-index.invariant)
    c.sort_once.ensures.rises c.sort_once.ensures.keeps c.sort_once.ensures.adds_none
