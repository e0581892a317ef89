use Rattle.std.proofs.Common.{◌≡◌, take}
use Rattle.edge_words.specs.Words.{words, words_from}
use Rattle.edge_words.specs.Limits.{edge_words}
use Rattle.edge_words.specs.Counting.{IsCounted}
use Rattle.edge_words.proofs.WordLetters.{first}
use Rattle.edge_words.proofs.presenting.list_words.Given as goal

abbrev pub invariant-loop-index : goal.invariant-loop-index
invariant-loop-index l =
    (l.words ≡ words_from l.regular (first l.regular l.field.pairs) (take l.index l.field.pairs))
    × IsCounted l.fn.sum (edge_words (words l.regular l.field.pairs) (take l.index l.field.pairs)) l.sum
