use Rattle.std.proofs.Common.{◌≡◌, ◌++◌, take}
use Rattle.pair_laws.specs.Letters.{inverted, reduced}
use Rattle.edge_words.proofs.reducing.push_backward.Given as goal

abbrev pub invariant-loop-index : goal.invariant-loop-index
invariant-loop-index l = l.word.items ≡ reduced (l.fn.word.items ++ take l.index (inverted l.letters))
