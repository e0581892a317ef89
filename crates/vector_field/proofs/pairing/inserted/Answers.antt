use Rattle.vector_field.specs.Pairs.{pair}
use Rattle.vector_field.specs.LastPlaces.{pair_at}
use Rattle.number_lists.proofs.CallerLemmas.{at-In}
use Rattle.vector_field.proofs.pairing.inserted.Goals as goal

pub holds-requires-clause-first : goal.holds-requires-clause-first
holds-requires-clause-first c = (c.requires (pair_at c.args.pairs.now c.loop-other.other-index) (at-In c.args.pairs.now c.loop-other.other-index (pair 0 0 0) c.loop-other-test.true) c.if-other-pair.true).0

pub holds-requires-clause-last : goal.holds-requires-clause-last
holds-requires-clause-last c = (c.requires (pair_at c.args.pairs.now c.loop-other.other-index) (at-In c.args.pairs.now c.loop-other.other-index (pair 0 0 0) c.loop-other-test.true) c.if-other-pair.true).1
