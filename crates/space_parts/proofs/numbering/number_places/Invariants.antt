use Rattle.space_parts.proofs.Numbers.{IsCounted}
use Rattle.space_parts.proofs.numbering.number_places.Given as goal

abbrev pub invariant-loop-number : goal.invariant-loop-number
invariant-loop-number l = IsCounted l.numbers l.count l.number-index l.counts.items l.places.items
