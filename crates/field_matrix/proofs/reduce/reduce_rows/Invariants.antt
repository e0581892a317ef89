use Rattle.std.proofs.Common.{◌+◌, ◌*◌, ◌≤◌}
use Rattle.linear_laws.specs.Echelon.{IsReducedTo}
use Rattle.field_matrix.specs.Rows.{cut}
use Rattle.field_matrix.proofs.reduce.reduce_rows.Given as goal

abbrev pub invariant-loop-turn : goal.invariant-loop-turn
invariant-loop-turn g l = record {
  few : l.rank ≤ l.turn;
  turns : l.turn ≤ l.begin;
  within : l.begin ≤ l.upto;
  reduced : IsReducedTo g.F.Field.ops l.shape.cols l.rank l.begin (cut l.shape.rows l.shape.cols l.fn.entries) (cut l.shape.rows l.shape.cols l.entries);
  steps : l.steps ≤ l.fn.steps + l.shape.rows * l.rank;
}
