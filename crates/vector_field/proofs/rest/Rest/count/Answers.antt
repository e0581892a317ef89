use Rattle.std.proofs.Common.{get_or}
use Rattle.number_lists.proofs.CallerLemmas.{In-holds, at-In}
use Rattle.vector_field.proofs.rest.Rest.count.Goals as goal

pub holds-requires-clause-first : goal.holds-requires-clause-first
holds-requires-clause-first c = (c.requires.cells (get_or c.args.cofaces.now c.loop-coface.coface-index 0) (In-holds (at-In c.args.cofaces.now c.loop-coface.coface-index 0 c.loop-coface-test.true))).0

pub holds-requires-clause-last : goal.holds-requires-clause-last
holds-requires-clause-last c = (c.requires.cells (get_or c.args.cofaces.now c.loop-coface.coface-index 0) (In-holds (at-In c.args.cofaces.now c.loop-coface.coface-index 0 c.loop-coface-test.true))).1
