use Rattle.std.proofs.Common.{◌≡◌, ◌++◌, take}
use Rattle.pair_laws.specs.Letters.{reduced}
use Rattle.edge_words.proofs.reducing.push_forward.Given as goal

abbrev pub invariant-loop-letter : goal.invariant-loop-letter
invariant-loop-letter l = l.word.items ≡ reduced (l.fn.word.items ++ take l.letter-index l.letters)
