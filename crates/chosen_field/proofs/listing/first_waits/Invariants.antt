use Rattle.std.proofs.Common.{◌+◌}
use Rattle.face_poset.specs.Poset.{facets_of}
use Rattle.chosen_field.proofs.FirstWaits.{AreBegun}
use Rattle.chosen_field.proofs.listing.first_waits.Given as goal

abbrev pub invariant-loop-index : goal.invariant-loop-index
invariant-loop-index g l = AreBegun (facets_of (g.G.Graded.space l.graded) (l.dim + 1)) l.uppers l.index l.waits
