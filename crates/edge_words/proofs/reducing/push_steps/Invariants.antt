use Rattle.std.proofs.Common.{◌≡◌, ◌++◌, take}
use Rattle.pair_laws.specs.Letters.{reduced}
use Rattle.edge_words.specs.Words.{word_of}
use Rattle.edge_words.proofs.reducing.push_steps.Given as goal

abbrev pub invariant-loop-step : goal.invariant-loop-step
invariant-loop-step l = l.word.items ≡ reduced (l.fn.word.items ++ word_of l.words (take l.step-index l.steps))
