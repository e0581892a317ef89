use Rattle.std.proofs.Common.{◌∙◌}
use Rattle.edge_words.specs.Moves.{inverse_column}
use Rattle.edge_words.proofs.Led.{values-more}
use Rattle.edge_words.proofs.moves.Moves.new.Goals as goal

pub loop-index-preserved : goal.loop-index-preserved
loop-index-preserved c =
    values-more (inverse_column c.args.table.now.columns c.args.table.now.sheets c.args.table.now.cells) c.loop-index.inverses c.push.new.self c.loop-index.index c.deref.result.now c.loop-index.invariant c.in_ok-push.ensures.ok
    (c.deref.ensures.value ∙ c.in_ok-list_inverse.ensures)
