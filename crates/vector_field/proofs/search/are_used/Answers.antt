use Rattle.number_lists.proofs.CallerLemmas.{In-holds, at-In}
use Rattle.std.proofs.Common.{get_or}
use Rattle.vector_field.proofs.search.are_used.Goals as goal

pub is_used-requires : goal.is_used-requires
is_used-requires c = c.requires (get_or c.args.cells.now c.loop-cell.cell-index 0) (In-holds (at-In c.args.cells.now c.loop-cell.cell-index 0 c.loop-cell-test.true))
