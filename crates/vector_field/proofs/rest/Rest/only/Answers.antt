use Rattle.std.proofs.Common.{get_or}
use Rattle.number_lists.proofs.CallerLemmas.{In-holds, at-In}
use Rattle.vector_field.proofs.rest.Rest.only.Goals as goal

pub holds-requires-clause-first : goal.holds-requires-clause-first
holds-requires-clause-first c = (c.requires (get_or c.args.among.now c.loop-cell.cell-index 0) (In-holds (at-In c.args.among.now c.loop-cell.cell-index 0 c.loop-cell-test.true))).0

pub holds-requires-clause-last : goal.holds-requires-clause-last
holds-requires-clause-last c = (c.requires (get_or c.args.among.now c.loop-cell.cell-index 0) (In-holds (at-In c.args.among.now c.loop-cell.cell-index 0 c.loop-cell-test.true))).1
