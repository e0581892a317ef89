use Rattle.std.proofs.Common.{take, []}
use Rattle.facet_reader.specs.Places.{Adds}
use Rattle.facet_reader.proofs.FacePlaces.{made_in}
use Rattle.facet_reader.proofs.listing.list_sets.Given as goal

abbrev pub invariant-loop-index : goal.invariant-loop-index
invariant-loop-index l = Adds (made_in l.size (take l.index l.rows)) [] l.places.items
