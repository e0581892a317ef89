use Rattle.std.proofs.Common.{take}
use Rattle.regular_check.specs.Tally.{IsTally}
use Rattle.regular_check.proofs.tally.tally_cells.Given as goal

abbrev pub invariant-loop-cell : goal.invariant-loop-cell
invariant-loop-cell l = IsTally l.space l.dim (take l.cell-index l.cells) l.tallies
