use Rattle.std.proofs.Common.{take}
use Rattle.regular_check.proofs.Tallies.{IsClearing}
use Rattle.regular_check.proofs.tally.clear.Given as goal

abbrev pub invariant-loop-cell : goal.invariant-loop-cell
invariant-loop-cell l = IsClearing l.space l.dim (take l.cell-index l.cells) l.fn.tallies l.tallies
