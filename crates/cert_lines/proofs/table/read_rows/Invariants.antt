use Rattle.std.proofs.Common.{◌≡◌, ◌≤◌, ◌==◌, ◌++◌, option_map}
use Rattle.std.specs.List.{slice_split}
use Rattle.certificates.specs.Placed.{rows_from}
use Rattle.cert_lines.specs.Pieces.{pieces_left, room}
use Rattle.cert_lines.specs.Tables.{rows_after}
use Rattle.cert_lines.proofs.table.read_rows.Given as goal

abbrev pub invariant-rows : goal.invariant-rows
invariant-rows l =
    record {
      whole : rows_after l.columns l.sheets 0 (rows_from (slice_split (λ b. b == 47) l.word))
          ≡ option_map (λ more. l.cells.items ++ more) (rows_after l.columns l.sheets l.rows (rows_from (pieces_left 47 (option_map (λ s. s.now) l.rest))));
      within : l.rows ≤ l.sheets;
    }

abbrev pub decreases-rows : goal.decreases-rows
decreases-rows l = room (option_map (λ s. s.now) l.rest)
