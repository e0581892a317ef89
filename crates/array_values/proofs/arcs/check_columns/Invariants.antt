use Rattle.std.proofs.Common.{◌≡◌, ◌≤◌, ◌<◌, ℕ, true}
use Rattle.array_values.specs.Arcs.{is_twice}
use Rattle.array_values.proofs.arcs.check_columns.Given as goal

abbrev pub invariant-loop-column : goal.invariant-loop-column
invariant-loop-column l = (c : ℕ) → 1 ≤ c → c < l.column → is_twice l.rows c ≡ true
