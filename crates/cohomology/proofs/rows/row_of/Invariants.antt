use Rattle.linear_laws.specs.Vectors.{row_at}
use Rattle.cohomology.proofs.RowSteps.{IsCopiedUpto}
use Rattle.cohomology.proofs.rows.row_of.Given as goal

abbrev pub invariant-loop-col : goal.invariant-loop-col
invariant-loop-col g l = IsCopiedUpto l.cols l.col (row_at l.matrix.rows l.index) l.row
