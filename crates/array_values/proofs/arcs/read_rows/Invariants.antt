use Rattle.std.proofs.Common.{◌≡◌, Ok, take, length, true}
use Rattle.std.specs.List.{list_all}
use Rattle.array_values.specs.Answers.{gather_from}
use Rattle.array_values.specs.Arcs.{is_row, row_of}
use Rattle.array_values.proofs.arcs.read_rows.Given as goal

abbrev pub invariant-loop-index : goal.invariant-loop-index
invariant-loop-index l = record {
  read : gather_from 1 (row_of (length l.items)) (take l.index l.items) ≡ Ok l.rows.items;
  len : length l.rows.items ≡ l.index;
  pairs : list_all (is_row (length l.items)) l.rows.items ≡ true;
}
