use Rattle.std.proofs.Common.{◌≡◌, map}
use Rattle.number_lists.specs.Words.{upto}
use Rattle.edge_words.specs.Words.{first_word}
use Rattle.edge_words.proofs.presenting.first_words.Given as goal

abbrev pub invariant-loop-index : goal.invariant-loop-index
invariant-loop-index l = l.words ≡ map (first_word l.regular l.field.pairs) (upto l.index)
