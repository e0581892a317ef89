use Rattle.std.proofs.Common.{◌≢◌, ◌<◌, ℕ, get_or}
use Rattle.sheet_laws.specs.Tables.{column}
use Rattle.edge_words.proofs.moves.row_of.Given as goal

abbrev pub invariant-loop-index : goal.invariant-loop-index
invariant-loop-index l = (k : ℕ) → k < l.index → get_or (column l.table.columns l.table.sheets l.table.cells l.generator) k 0 ≢ l.sheet
