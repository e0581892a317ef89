use Rattle.std.proofs.Common.{◌≡◌, ◌≤◌, ◌+◌, ◌==◌, Some, length, option_map}
use Rattle.std.specs.Option.{option_and_then}
use Rattle.std.specs.List.{slice_split}
use Rattle.cert_lines.specs.Pieces.{pieces_left, room}
use Rattle.cert_lines.specs.Widths.{width_of}
use Rattle.cert_lines.proofs.placed.row_width.Given as goal

abbrev pub invariant-entries : goal.invariant-entries
invariant-entries l =
    record {
      width : option_and_then (λ n. Some (n + l.width)) (width_of (pieces_left 44 (option_map (λ s. s.now) l.rest))) ≡ width_of (slice_split (λ b. b == 44) l.row);
      within : l.width + room (option_map (λ s. s.now) l.rest) ≤ length l.row + 1;
    }

abbrev pub decreases-entries : goal.decreases-entries
decreases-entries l = room (option_map (λ s. s.now) l.rest)
