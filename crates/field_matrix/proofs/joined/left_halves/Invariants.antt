use Rattle.std.proofs.Common.{◌≡◌, ◌*◌, length, take}
use Rattle.linear_laws.specs.Marks.{lefts}
use Rattle.field_matrix.specs.Rows.{cut}
use Rattle.field_matrix.proofs.joined.left_halves.Given as goal

abbrev pub invariant-loop-row : goal.invariant-loop-row
invariant-loop-row l = record {
  long : length l.halves.items ≡ l.row * l.width;
  rows : cut l.row l.width l.halves.items ≡ take l.row (lefts l.width (cut l.shape.rows l.shape.cols l.joined));
}
