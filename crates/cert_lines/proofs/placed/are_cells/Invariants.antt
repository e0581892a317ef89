use Rattle.std.proofs.Common.{◌≡◌, is_some, length}
use Rattle.sheet_tables.specs.Positions.{cells_from}
use Rattle.cert_lines.proofs.placed.are_cells.Given as goal

abbrev pub invariant-cells : goal.invariant-cells
invariant-cells l = is_some (cells_from l.rest) ≡ is_some (cells_from l.fn.text)

abbrev pub decreases-cells : goal.decreases-cells
decreases-cells l = length l.rest
