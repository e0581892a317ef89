use Rattle.std.proofs.Common.{◌∙◌, sym, arith}
use Rattle.sheet_laws.specs.Tables.{column}
use Rattle.edge_words.proofs.Led.{row-read, row-first, rows-passed, row-there}
use Rattle.edge_words.proofs.moves.row_of.Goals as goal

pub returns-then-cell-sheet : goal.returns-then-cell-sheet
returns-then-cell-sheet c =
    row-first c.args.table.now.columns c.args.table.now.sheets c.args.table.now.cells c.args.generator c.loop-index.index c.args.sheet (omega (arith, c.loop-index-test.true, c.sheets-index-end.ensures.sheets)) c.loop-index.invariant
    (sym (row-read c.args.table.now.columns c.args.table.now.sheets c.args.table.now.cells c.args.generator c.loop-index.index c.cell.result (omega (arith, c.loop-index-test.true, c.sheets-index-end.ensures.sheets)) c.cell.ensures)
    ∙ c.if-cell-sheet.true)

pub loop-index-preserved : goal.loop-index-preserved
loop-index-preserved c =
    rows-passed (column c.args.table.now.columns c.args.table.now.sheets c.args.table.now.cells c.args.generator) c.loop-index.index c.args.sheet c.cell.result c.loop-index.invariant
    (row-read c.args.table.now.columns c.args.table.now.sheets c.args.table.now.cells c.args.generator c.loop-index.index c.cell.result (omega (arith, c.loop-index-test.true, c.sheets-index-end.ensures.sheets)) c.cell.ensures)
    c.if-cell-sheet.false

pub unreachable-requires : goal.unreachable-requires
unreachable-requires c =
    row-there c.args.table.now.columns c.args.table.now.sheets c.args.table.now.cells c.args.generator c.args.sheet c.requires.table c.requires.generator c.requires.sheet
    (λ k l. c.loop-index.invariant k (omega (arith, l, c.loop-index-test.false, c.sheets-index-end.ensures.sheets)))
