use Rattle.std.proofs.Common.{◌≡◌, take}
use Rattle.number_lists.proofs.Touch.{IsTouched}
use Rattle.number_lists.proofs.found_numbers.FoundNumbers.write.Given as goal

abbrev pub invariant-loop-number : goal.invariant-loop-number
invariant-loop-number l = (l.number-items ≡ l.self.found) × IsTouched 0 (λ _. l.value) (take l.number-index l.number-items) l.fn.places l.places
