use Rattle.field_matrix.proofs.Sweep.{Swept}
use Rattle.field_matrix.proofs.solve.sweep.Given as goal

abbrev pub invariant-loop-row : goal.invariant-loop-row
invariant-loop-row g l = Swept g.F.Field.ops l.reduced.cols l.history.cols l.row l.reduced.rows l.history.rows l.fn.left l.left l.told
