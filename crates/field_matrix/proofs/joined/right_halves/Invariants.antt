use Rattle.std.proofs.Common.{◌≡◌, ◌≤◌, ◌-◌, ◌*◌, length, take, drop}
use Rattle.linear_laws.specs.Marks.{rights}
use Rattle.field_matrix.specs.Rows.{cut}
use Rattle.field_matrix.proofs.joined.right_halves.Given as goal

abbrev pub invariant-loop-row : goal.invariant-loop-row
invariant-loop-row l = record {
  below : l.row ≤ l.shape.rows;
  long : length l.halves.items ≡ (l.row - l.from) * (l.shape.cols - l.width);
  rows : cut (l.row - l.from) (l.shape.cols - l.width) l.halves.items ≡ take (l.row - l.from) (drop l.from (rights l.width (cut l.shape.rows l.shape.cols l.joined)));
}
