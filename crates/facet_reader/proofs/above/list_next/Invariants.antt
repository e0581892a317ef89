use Rattle.std.proofs.Common.{◌≡◌, take}
use Rattle.std.specs.List.{flat_map}
use Rattle.facet_reader.proofs.AboveLemmas.{next_of}
use Rattle.facet_reader.proofs.above.list_next.Given as goal

abbrev pub invariant-loop-number : goal.invariant-loop-number
invariant-loop-number l = l.next.items ≡ flat_map (next_of l.pairs l.point) (take l.number-index l.numbers)
