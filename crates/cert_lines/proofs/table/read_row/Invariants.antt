use Rattle.std.proofs.Common.{◌≡◌, ◌≤◌, ◌++◌, option_map}
use Rattle.certificates.specs.Placed.{entries_from, row_of}
use Rattle.cert_lines.specs.Pieces.{pieces_left, room}
use Rattle.cert_lines.specs.Tables.{if_row, row_after}
use Rattle.cert_lines.proofs.table.read_row.Given as goal

abbrev pub invariant-entries : goal.invariant-entries
invariant-entries l =
    record {
      whole : option_map (λ entries. l.fn.cells.items ++ entries) (if_row l.columns l.sheets (row_of l.fn.row))
          ≡ option_map (λ entries. l.cells.items ++ entries) (row_after l.columns l.sheets l.width (entries_from (pieces_left 44 (option_map (λ s. s.now) l.rest))));
      within : l.width ≤ l.columns;
    }

abbrev pub decreases-entries : goal.decreases-entries
decreases-entries l = room (option_map (λ s. s.now) l.rest)
