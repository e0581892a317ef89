use Rattle.std.proofs.Common.{◌≡◌, ◌≤◌, ◌+◌, ℕ, get_or, take, length, count_by}
use Rattle.array_values.specs.Arcs.{has_column}
use Rattle.array_values.proofs.arcs.count_columns.Given as goal

abbrev pub invariant-loop-left : goal.invariant-loop-left
invariant-loop-left l = record {
  long : length l.counts.items ≡ length l.rows + 1;
  counts : (c : ℕ) → c ≤ length l.rows → get_or l.counts.items c 0 ≡ count_by (has_column c) (take l.left-index l.rows);
}
