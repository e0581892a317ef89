use Rattle.std.proofs.Common.{◌≡◌, map, take}
use Rattle.local_field.specs.Flags.{top_number}
use Rattle.local_field.proofs.numbering.list_tops.Given as goal

abbrev pub invariant-loop-number : goal.invariant-loop-number
invariant-loop-number l = l.tops.items ≡ map (top_number l.chains l.degree) (take l.number-index l.numbers)
