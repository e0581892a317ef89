use Rattle.std.proofs.Common.{◌≡◌, map}
use Rattle.number_lists.specs.Words.{upto}
use Rattle.edge_words.specs.Moves.{inverse_column}
use Rattle.edge_words.proofs.moves.Moves.new.Given as goal

abbrev pub invariant-loop-index : goal.invariant-loop-index
invariant-loop-index l = l.inverses ≡ map (inverse_column l.table.columns l.table.sheets l.table.cells) (upto l.index)
