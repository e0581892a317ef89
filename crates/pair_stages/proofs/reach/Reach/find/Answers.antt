use Rattle.std.proofs.Common.{◌≡◌, ◌<◌, length, map, sym, ap, ◌∙◌, subst, All}
use Rattle.pair_stages.specs.Reaches.{AreIndexes, IsReach}
use Rattle.pair_stages.specs.Units.{pair_at}
use Rattle.pair_stages.proofs.Searched.{on_ok, order_within, reach_is}
use Rattle.pair_stages.proofs.reach.Reach.find.Goals as goal

pub choose-requires : goal.choose-requires
choose-requires g c =
    subst (All (λ k. k < length c.args.stage.now.pairs)) (sym c.deref.ensures.value)
    (order_within g.F.Field.ops (g.G.Graded.space c.args.graded.now) (g.G.Signed.negative c.args.graded.now) c.args.dim c.args.stage.now c.args.next.now c.requires.paired c.requires.degrees c.deref-indexes.result.now
    (subst (AreIndexes c.args.stage.now.pairs c.args.next.now.kinds) (sym c.deref-indexes.ensures.value) c.requires.indexes) c.find_cells.new.found.found c.list_order.new.order.items c.in_ok-list_order.ensures)

pub returns-clause-reach : goal.returns-clause-reach
returns-clause-reach g c =
    on_ok c.choose.result (c.choose.new.chosen.items ≡ map (pair_at c.args.stage.now.pairs) c.deref.result.now) (IsReach c.args.stage.now c.args.next.now c.args.place c.find_cells.new.found.found c.choose.new.chosen.items)
    (λ e. reach_is g.F.Field.ops (g.G.Graded.space c.args.graded.now) (g.G.Signed.negative c.args.graded.now) c.args.dim c.args.stage.now c.args.next.now c.requires.paired c.requires.degrees c.deref-indexes.result.now
    (subst (AreIndexes c.args.stage.now.pairs c.args.next.now.kinds) (sym c.deref-indexes.ensures.value) c.requires.indexes) c.args.place c.find_cells.new.found.found c.list_order.new.order.items c.choose.new.chosen.items c.requires.place
    c.in_ok-find_cells.ensures.closed c.in_ok-list_order.ensures (e ∙ ap (map (pair_at c.args.stage.now.pairs)) c.deref.ensures.value))
    c.choose.ensures
