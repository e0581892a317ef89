use Rattle.std.proofs.Common.{drop}
use Rattle.cover_search.proofs.Walking.{Walked}
use Rattle.cover_search.proofs.walker.Walker.round.Given as goal

abbrev pub invariant-loop-letter : goal.invariant-loop-letter
invariant-loop-letter l = Walked l.self l.word (drop l.letter-index l.word) l.bytes
