use Rattle.std.proofs.Common.{◌≡◌, map, take}
use Rattle.field_matrix.proofs.solve.negatives.Given as goal

abbrev pub invariant-loop-number : goal.invariant-loop-number
invariant-loop-number g l = l.row.items ≡ map g.F.Field.ops.neg (take l.number-index l.numbers)
