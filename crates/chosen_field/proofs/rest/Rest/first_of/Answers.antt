use Rattle.std.proofs.Common.{◌-◌, get_or, ◌∙◌, ap, arith}
use Rattle.chosen_field.specs.Rests.{Counted}
use Rattle.chosen_field.proofs.Gone.{first_of_at, none_of_at}
use Rattle.chosen_field.proofs.rest.Rest.first_of.Goals as goal

pub returns-then-index : goal.returns-then-index
returns-then-index c =
    let r = c.requires c.loop-cell.cell-index 0 c.loop-cell-test.true in
    first_of_at c.args.self.now.cells c.args.among.now c.loop-cell.cell-index c.index.result.now c.loop-cell-test.true r.0 r.1
    (c.index.ensures ∙ ap (λ (k : Counted). get_or k.cells (get_or c.args.among.now c.loop-cell.cell-index 0 - 1) c.index.result.now) c.self.view_is) c.if-index.true c.loop-cell.invariant

pub returns : goal.returns
returns c = none_of_at c.args.self.now.cells c.args.among.now c.loop-cell.cell-index (omega (arith, c.loop-cell-test.false)) c.loop-cell.invariant
