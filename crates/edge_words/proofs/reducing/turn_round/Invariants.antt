use Rattle.std.proofs.Common.{◌≡◌, reverse}
use Rattle.live_laws.specs.Walks.{AreLetters}
use Rattle.edge_words.proofs.Turned.{half}
use Rattle.edge_words.proofs.reducing.turn_round.Given as goal

abbrev pub invariant-loop-index : goal.invariant-loop-index
invariant-loop-index l = (l.word.items ≡ half (reverse l.fn.word.items) l.index) × AreLetters 60000 l.word.items
