use Rattle.std.proofs.Common.{◌∙◌, arith}
use Rattle.sheet_laws.specs.Permutations.{back}
use Rattle.sheet_laws.specs.Tables.{column}
use Rattle.edge_words.proofs.Led.{values-more, values-all}
use Rattle.edge_words.proofs.moves.list_inverse.Goals as goal

pub loop-index-preserved : goal.loop-index-preserved
loop-index-preserved c =
    values-more (back (column c.args.table.now.columns c.args.table.now.sheets c.args.table.now.cells c.args.generator)) c.loop-index.inverse.items c.push.new.self.items c.loop-index.index c.from.result c.loop-index.invariant c.in_ok-push.ensures.items
    (c.from.ensures ∙ c.row_of.ensures)

pub returns : goal.returns
returns c =
    values-all (back (column c.args.table.now.columns c.args.table.now.sheets c.args.table.now.cells c.args.generator)) c.loop-index.inverse.items c.loop-index.index c.args.table.now.sheets c.loop-index.invariant
    (omega (arith, c.loop-index-test.false, c.loop-index.auto.index-end, c.sheets-index-end.ensures.sheets))
