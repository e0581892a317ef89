use Rattle.std.proofs.Common.{arith}
use Rattle.pair_stages.proofs.Searched.{search_end}
use Rattle.pair_stages.proofs.reach.find_cells.Goals as goal

pub returns-clause-closed : goal.returns-clause-closed
returns-clause-closed g c =
    search_end (g.G.Graded.space c.args.graded.now) c.args.dim c.args.stage.now c.args.next.now c.args.indexes.now c.args.place c.loop-head.head c.loop-head.found.found (omega (arith, c.loop-head-test.false, c.len.ensures.len)) c.loop-head.invariant.searched
