use Rattle.std.proofs.Common.{◌≡◌, [], ◌∷◌, map, take}
use Rattle.space_parts.proofs.numbering.group.Given as goal

abbrev pub invariant-loop-number : goal.invariant-loop-number
invariant-loop-number l = l.singles ≡ map (λ n. n ∷ []) (take l.number-index l.numbers)
