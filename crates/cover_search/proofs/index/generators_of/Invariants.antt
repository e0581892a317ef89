use Rattle.std.proofs.Common.{◌≡◌, map, take}
use Rattle.live_laws.specs.Walks.{generator}
use Rattle.cover_search.proofs.index.generators_of.Given as goal

abbrev pub invariant-loop-letter : goal.invariant-loop-letter
invariant-loop-letter l = l.generators.items ≡ map generator (take l.letter-index l.word)
