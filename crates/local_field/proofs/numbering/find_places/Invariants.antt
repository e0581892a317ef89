use Rattle.std.proofs.Common.{take}
use Rattle.sphere_collapses.specs.Places.{ArePlaces}
use Rattle.local_field.proofs.numbering.find_places.Given as goal

abbrev pub invariant-loop-number : goal.invariant-loop-number
invariant-loop-number l = ArePlaces l.sorted (take l.number-index l.numbers) l.places.items
