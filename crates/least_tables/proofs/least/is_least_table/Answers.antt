use Rattle.std.proofs.Common.{sym, subst, ◌∙◌}
use Rattle.std.proofs.lemmas.Bool.{false≢true}
use Rattle.least_tables.specs.Smaller.{RowsAppear}
use Rattle.least_tables.proofs.Rules.{least-rows}
use Rattle.least_tables.proofs.least.is_least_table.Goals as goal

pub returns-else-rows_appear : goal.returns-else-rows_appear
returns-else-rows_appear c =
    c.if-rows_appear.false
    ∙ least-rows c.args.table.now.columns c.args.table.now.sheets c.args.table.now.cells c.cells-cells.ensures.valid.some_sheet c.requires.table c.cells-cells.ensures.valid.full c.requires.transitive
    (λ rows. false≢true (c.if-rows_appear.ensures.1
    (subst (λ xs. RowsAppear c.columns.result xs) (sym c.cells-cells.ensures.cells) (subst (λ n. RowsAppear n c.args.table.now.cells) (sym c.columns.ensures) rows))))
