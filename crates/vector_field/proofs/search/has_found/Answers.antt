use Rattle.number_lists.proofs.CallerLemmas.{In-holds, at-In}
use Rattle.std.proofs.Common.{get_or}
use Rattle.vector_field.proofs.search.has_found.Goals as goal

pub holds-requires-clause-first : goal.holds-requires-clause-first
holds-requires-clause-first c = (c.requires (get_or c.args.facets.now c.loop-facet.facet-index 0) (In-holds (at-In c.args.facets.now c.loop-facet.facet-index 0 c.loop-facet-test.true))).0

pub holds-requires-clause-last : goal.holds-requires-clause-last
holds-requires-clause-last c = (c.requires (get_or c.args.facets.now c.loop-facet.facet-index 0) (In-holds (at-In c.args.facets.now c.loop-facet.facet-index 0 c.loop-facet-test.true))).1
