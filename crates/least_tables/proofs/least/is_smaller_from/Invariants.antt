use Rattle.std.proofs.Common.{◌≡◌, ◌<◌, ◌+◌, ◌*◌}
use Rattle.least_tables.proofs.Comparing.{IsCompared}
use Rattle.least_tables.proofs.least.is_smaller_from.Given as goal

abbrev pub invariant-loop-place : goal.invariant-loop-place
invariant-loop-place l = record {
  compared : IsCompared l.columns l.sheets l.first l.place l.known l.cells l.numbering.numbers l.numbering.sheets;
  place : l.place ≡ l.columns * l.row + l.column;
  column : 0 < l.columns → l.column < l.columns;
}
