use Rattle.std.proofs.Common.{◌≡◌, option_map}
use Rattle.cert_lines.specs.Pieces.{pieces_left, room}
use Rattle.cert_lines.specs.Widths.{are_wide}
use Rattle.cert_lines.proofs.placed.are_rows.Given as goal

abbrev pub invariant-rows : goal.invariant-rows
invariant-rows l = are_wide l.width (pieces_left 47 (option_map (λ s. s.now) l.rest)) ≡ are_wide l.width (pieces_left 47 (option_map (λ s. s.now) l.fn.rows))

abbrev pub decreases-rows : goal.decreases-rows
decreases-rows l = room (option_map (λ s. s.now) l.rest)
