use Rattle.linear_laws.specs.Vectors.{row_at}
use Rattle.cohomology.proofs.RowSteps.{IsAddedUpto}
use Rattle.cohomology.proofs.rows.add_multiple.Given as goal

abbrev pub invariant-loop-col : goal.invariant-loop-col
invariant-loop-col g l = IsAddedUpto g.F.Field.ops (g.F.Field.number_of l.fn.factor) l.col l.fn.row (row_at l.fn.matrix.rows l.fn.index) l.row
