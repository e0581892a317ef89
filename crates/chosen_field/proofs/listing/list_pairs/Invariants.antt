use Rattle.std.proofs.Common.{◌≡◌, ◌++◌, ◌+◌, length}
use Rattle.face_poset.specs.Poset.{facets_of}
use Rattle.chosen_field.specs.Chosen.{in_turn}
use Rattle.chosen_field.specs.Listings.{positive_at, links_at, AreWaits}
use Rattle.chosen_field.proofs.listing.list_pairs.Given as goal

abbrev pub invariant-loop-lower : goal.invariant-loop-lower
invariant-loop-lower g l =
    AreWaits (facets_of (g.G.Graded.space l.graded) (l.dim + 1)) l.uppers l.waits
    × (l.made.items ++ in_turn (g.G.Graded.space l.graded) l.dim (links_at l.uppers (positive_at l.waits)) ≡ in_turn (g.G.Graded.space l.graded) l.dim (links_at l.uppers (positive_at l.uppers)))

abbrev pub decreases-loop-lower : goal.decreases-loop-lower
decreases-loop-lower g l = length (positive_at l.waits)
