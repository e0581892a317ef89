use Rattle.std.proofs.Common.{◌≡◌, false, length, take}
use Rattle.number_lists.proofs.Touch.{IsTouched}
use Rattle.number_lists.proofs.found_numbers.FoundNumbers.clear.Given as goal

abbrev pub invariant-loop-index : goal.invariant-loop-index
invariant-loop-index l =
    (l.self-inside.numbers.items ≡ l.initial.self-inside.numbers.items)
    × (length l.self-inside.marks.items ≡ length l.initial.self-inside.marks.items)
    × IsTouched false (λ _. false) (take l.index l.initial.self-inside.numbers.items) l.initial.self-inside.marks.items l.self-inside.marks.items
