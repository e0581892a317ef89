use Rattle.std.proofs.Common.{◌≡◌, ◌++◌, take}
use Rattle.linear_laws.specs.Vectors.{column}
use Rattle.field_matrix.specs.Rows.{cut}
use Rattle.field_matrix.proofs.complement.push_column.Given as goal

abbrev pub invariant-loop-row : goal.invariant-loop-row
invariant-loop-row l = l.columns.items ≡ l.fn.columns.items ++ take l.row (column l.col (cut l.shape.rows l.shape.cols l.entries))
