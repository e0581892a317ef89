use Rattle.std.proofs.Common.{◌<◌, ℕ}
use Rattle.least_tables.specs.Smaller.{HasNoSmaller}
use Rattle.least_tables.proofs.least.none_is_smaller.Given as goal

abbrev pub invariant-loop-first : goal.invariant-loop-first
invariant-loop-first l = (b : ℕ) → b < l.first → HasNoSmaller l.columns l.sheets b l.cells
