use Rattle.std.proofs.Common.{◌+◌, ◌<◌, ◌≤◌}
use Rattle.field_matrix.specs.Rows.{cut}
use Rattle.field_matrix.specs.Steps.{IsCleared}
use Rattle.field_matrix.proofs.reduce.clear_column.Given as goal

abbrev pub invariant-loop-i : goal.invariant-loop-i
invariant-loop-i g l = record {
  cleared : IsCleared g.F.Field.ops l.shape.cols l.rank l.col l.i (cut l.shape.rows l.shape.cols l.fn.entries) (cut l.shape.rows l.shape.cols l.entries);
  before_rank : l.i ≤ l.rank → l.steps ≤ l.fn.steps + l.i;
  after_rank : l.rank < l.i → l.steps + 1 ≤ l.fn.steps + l.i;
}
