use Rattle.std.proofs.Common.{◌≡◌, ◌≤◌, take}
use Rattle.linear_laws.specs.Echelon.{rank_of}
use Rattle.field_matrix.specs.Rows.{cut}
use Rattle.field_matrix.proofs.matrix.Matrix.rank.Given as goal

abbrev pub invariant-loop-row : goal.invariant-loop-row
invariant-loop-row g l = record {
  counted : l.rank ≡ rank_of (take l.row (cut l.self-inside.rows l.self-inside.cols l.self-inside.entries.items));
  few : l.rank ≤ l.row;
}
