use Rattle.std.proofs.Common.{get_or, arith}
use Rattle.number_lists.proofs.CallerLemmas.{In-holds, at-In}
use Rattle.vector_field.proofs.rest.Rest.remove.Goals as goal

pub leave-requires-clause-first : goal.leave-requires-clause-first
leave-requires-clause-first c = (c.requires.facets (get_or c.args.facets.now c.loop-facet.facet-index 0) (In-holds (at-In c.args.facets.now c.loop-facet.facet-index 0 c.loop-facet-test.true))).0

pub leave-requires-clause-last : goal.leave-requires-clause-last
leave-requires-clause-last c = omega (arith, c.loop-facet.invariant.0, (c.requires.facets (get_or c.args.facets.now c.loop-facet.facet-index 0) (In-holds (at-In c.args.facets.now c.loop-facet.facet-index 0 c.loop-facet-test.true))).1)
