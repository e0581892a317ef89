use Rattle.std.proofs.Common.{◌≡◌, take, None}
use Rattle.facet_reader.specs.Labels.{first_some, row_fault, rows_in}
use Rattle.facet_reader.proofs.labels.list_rows.Given as goal

abbrev pub invariant-loop-index : goal.invariant-loop-index
invariant-loop-index l = record {
  sound : first_some row_fault (take l.index l.items) ≡ None;
  rows : l.rows ≡ rows_in (take l.index l.items);
}
