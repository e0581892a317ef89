use Rattle.std.proofs.Common.{◌-◌}
use Rattle.facet_reader.specs.Places.{Adds}
use Rattle.facet_reader.proofs.MadeSets.{made_first}
use Rattle.facet_reader.proofs.listing.+push_sets.Given as goal

abbrev pub invariant-loop-index : goal.invariant-loop-index
invariant-loop-index l = Adds (made_first (l.size - 1) l.high l.row l.index) l.initial.places.items l.places.items

abbrev pub decreases-push_sets : goal.decreases-push_sets
decreases-push_sets l = l.size
