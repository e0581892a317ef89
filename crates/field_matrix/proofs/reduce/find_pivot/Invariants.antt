use Rattle.field_matrix.specs.Rows.{cut}
use Rattle.field_matrix.proofs.Pivots.{IsBest}
use Rattle.field_matrix.proofs.reduce.find_pivot.Given as goal

abbrev pub invariant-loop-row : goal.invariant-loop-row
invariant-loop-row l = IsBest (cut l.shape.rows l.shape.cols l.entries) l.rank l.begin l.upto l.row l.best.row l.best.col
