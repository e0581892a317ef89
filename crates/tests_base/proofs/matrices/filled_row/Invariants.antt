use Rattle.std.proofs.Common.{◌≡◌, length}
use Rattle.tests_base.proofs.matrices.filled_row.Given as goal

abbrev pub invariant-loop-j : goal.invariant-loop-j
invariant-loop-j g l = length l.row ≡ 3
