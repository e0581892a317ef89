use Rattle.std.proofs.Common.{◌∙◌, ap, arith, length}
use Rattle.chosen_field.specs.Rests.{Counted}
use Rattle.chosen_field.proofs.Gone.{first_left_at, none_left_at}
use Rattle.chosen_field.proofs.rest.Rest.first_left.Goals as goal

pub returns-then-index-clause-cell : goal.returns-then-index-clause-cell
returns-then-index-clause-cell c =
    first_left_at c.args.self.now.cells c.loop-index.self-inside.cells.items c.loop-index.index c.index.result.now (c.loop-index.invariant.0 ∙ ap (λ (k : Counted). k.cells) c.self.view_is)
    (omega (arith, c.loop-index-test.true, c.len-index-end.ensures, c.self.inside.cells.ok.0, ap (λ (k : Counted). length k.cells) c.self.view_is)) c.index.ensures c.if-index.true c.loop-index.invariant.2

pub returns-clause-cell : goal.returns-clause-cell
returns-clause-cell c =
    none_left_at c.args.self.now.cells c.loop-index.self-inside.cells.items c.loop-index.index (c.loop-index.invariant.0 ∙ ap (λ (k : Counted). k.cells) c.self.view_is)
    (omega (arith, c.loop-index-test.false, c.len-index-end.ensures, c.self.inside.cells.ok.0, ap (λ (k : Counted). length k.cells) c.self.view_is)) c.loop-index.invariant.2
