use Rattle.std.proofs.Common.{◌≡◌}
use Rattle.face_poset.specs.Poset.{count}
use Rattle.regular_check.proofs.Numbered.{IsNumbered}
use Rattle.regular_check.proofs.components.find_components.Given as goal

abbrev pub invariant-loop-index : goal.invariant-loop-index
invariant-loop-index l = (l.found.most ≡ count l.space 0) × IsNumbered l.space l.index l.count l.numbers.items
