use Rattle.std.proofs.Common.{◌≡◌, ◌++◌, length, Some}
use Rattle.std.specs.Option.{option_and_then}
use Rattle.sheet_tables.specs.Positions.{cells_from}
use Rattle.sheet_tables.proofs.position.read_cells.Given as goal

abbrev pub invariant-cells : goal.invariant-cells
invariant-cells l = cells_from l.text ≡ option_and_then (λ cs. Some (l.cells.items ++ cs)) (cells_from l.rest)

abbrev pub decreases-cells : goal.decreases-cells
decreases-cells l = length l.rest
