use Rattle.std.proofs.Common.{◌≡◌, ℕ, Bool, map, filter, take}
use Rattle.cell_signs.proofs.put.list_minus.Given as goal

abbrev pub invariant-loop-index : goal.invariant-loop-index
invariant-loop-index l = (values : ℕ → Bool) → l.signs ≡ map values l.numbers → l.minus.items ≡ filter values (take l.index l.numbers)
