use Rattle.std.proofs.Common.{◌≡◌, ℕ, ◌+◌, ◌*◌, ◌<◌, ◌++◌, length}
use Rattle.linear_laws.specs.Vectors.{column, row_at}
use Rattle.field_matrix.specs.Rows.{cut}
use Rattle.field_matrix.proofs.complement.transposed.Given as goal

abbrev pub invariant-loop-col : goal.invariant-loop-col
invariant-loop-col l = record {
  long : length l.columns.items ≡ l.col * (l.first_shape.rows + l.shape.rows);
  columns : (j : ℕ) → j < l.col → row_at (cut l.col (l.first_shape.rows + l.shape.rows) l.columns.items) j ≡ column j (cut l.first_shape.rows l.shape.cols l.first ++ cut l.shape.rows l.shape.cols l.others);
}
