use Rattle.std.proofs.Common.{◌∙◌, sym}
use Rattle.pair_stages.proofs.ColumnLemmas.{coefficient_more, coefficient_found}
use Rattle.pair_stages.proofs.columns.coefficient_in.Goals as goal

pub loop-index-preserved : goal.loop-index-preserved
loop-index-preserved c =
    coefficient_more c.args.cells.now c.args.values.now c.loop-index.index c.args.cell c.loop-index-test.true c.requires c.if-cells-index.false ∙ c.loop-index.invariant

pub returns-then-cells-index : goal.returns-then-cells-index
returns-then-cells-index c =
    sym (coefficient_found c.args.cells.now c.args.values.now c.loop-index.index c.args.cell c.loop-index-test.true c.requires c.if-cells-index.true) ∙ c.loop-index.invariant
