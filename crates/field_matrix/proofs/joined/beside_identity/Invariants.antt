use Rattle.std.proofs.Common.{◌≡◌, ◌+◌, ◌*◌, length, take}
use Rattle.linear_laws.specs.Marks.{identity, beside}
use Rattle.field_matrix.specs.Rows.{cut}
use Rattle.field_matrix.proofs.joined.beside_identity.Given as goal

abbrev pub invariant-loop-row : goal.invariant-loop-row
invariant-loop-row l = record {
  long : length l.joined.items ≡ l.row * (l.shape.cols + l.shape.rows);
  rows : cut l.row (l.shape.cols + l.shape.rows) l.joined.items ≡ take l.row (beside (cut l.shape.rows l.shape.cols l.entries) (identity l.shape.rows));
}
