use Rattle.std.proofs.Common.{arith}
use Rattle.regular_check.proofs.Tallies.{cleared}
use Rattle.regular_check.proofs.tally.clear.Goals as goal

pub returns : goal.returns
returns c =
    cleared c.args.space.now c.args.dim c.args.cells.now c.loop-cell.cell-index c.args.tallies.now c.loop-cell.tallies (omega (arith, c.loop-cell-test.false)) c.loop-cell.auto.tallies c.requires.tally c.loop-cell.invariant
