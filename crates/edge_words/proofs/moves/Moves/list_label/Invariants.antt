use Rattle.std.proofs.Common.{◌≡◌, map}
use Rattle.number_lists.specs.Words.{upto}
use Rattle.pair_laws.specs.Letters.{follow}
use Rattle.live_laws.specs.Walks.{move}
use Rattle.edge_words.proofs.moves.Moves.list_label.Given as goal

abbrev pub invariant-loop-index : goal.invariant-loop-index
invariant-loop-index l = l.label.items ≡ map (follow (move l.self.columns l.self.sheets l.self.cells) l.word) (upto l.index)
