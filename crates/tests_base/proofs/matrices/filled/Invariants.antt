use Rattle.std.proofs.Common.{◌≡◌, length}
use Rattle.tests_base.proofs.matrices.filled.Given as goal

abbrev pub invariant-loop-i : goal.invariant-loop-i
invariant-loop-i g l = record { cols : l.matrix.cols ≡ 3; rows : length l.matrix.rows ≡ length l.numbers }

abbrev pub invariant-loop-j : goal.invariant-loop-j
invariant-loop-j g l = record { cols : l.matrix.cols ≡ 3; rows : length l.matrix.rows ≡ length l.numbers }
