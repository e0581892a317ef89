use Rattle.std.proofs.Common.{◌-◌, map, get_or, ap, ◌∙◌}
use Rattle.std.proofs.lemmas.List.{take_all}
use Rattle.cover_space.specs.Total.{sheeted}
use Rattle.cover_space.proofs.Layered.{listed-more}
use Rattle.cover_space.proofs.over.list_over.Goals as goal

pub loop-cell-preserved : goal.loop-cell-preserved
loop-cell-preserved c = λ f a.
    listed-more c.args.sheets c.args.cells.now c.args.least.now c.args.vertices.now c.args.over.now f c.loop-cell.cell-index c.place_of-place.result c.from.result c.from-in-loop-cell.result c.loop-cell.list.items c.push.new.self.items c.loop-cell-test.true a
    (c.loop-cell.invariant f a) c.place_of-place.ensures.number c.place_of-place.ensures.first c.place_of-place.ensures.last c.from.ensures c.from-in-loop-cell.ensures c.in_ok-push.ensures.items

pub returns : goal.returns
returns c = λ f a.
    c.loop-cell.invariant f a ∙ ap (map (λ x. sheeted c.args.sheets x (f (get_or c.args.least.now (x - 1) 0)))) (take_all c.loop-cell.cell-index c.args.cells.now c.loop-cell-test.false)
