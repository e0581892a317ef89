use Rattle.std.proofs.Common.{◌≡◌, ◌<◌, ◌≤◌, ◌+◌, ◌*◌, ◌/◌, ℕ, suc, take}
use Rattle.live_laws.specs.Live.{appeared}
use Rattle.least_tables.proofs.least.rows_appear.Given as goal

abbrev pub invariant-loop-place : goal.invariant-loop-place
invariant-loop-place l = record {
  seen : l.seen ≡ appeared 1 (take l.place l.cells);
  rows : (j : ℕ) → j < l.place → suc (j / l.columns) ≤ appeared 1 (take j l.cells);
  place : l.place ≡ l.columns * l.row + l.column;
  column : 0 < l.columns → l.column < l.columns;
}
