use Rattle.std.proofs.Common.{◌≡◌, map}
use Rattle.number_lists.specs.Words.{upto}
use Rattle.sheet_laws.specs.Permutations.{back}
use Rattle.sheet_laws.specs.Tables.{column}
use Rattle.edge_words.proofs.moves.list_inverse.Given as goal

abbrev pub invariant-loop-index : goal.invariant-loop-index
invariant-loop-index l = l.inverse.items ≡ map (back (column l.table.columns l.table.sheets l.table.cells l.generator)) (upto l.index)
