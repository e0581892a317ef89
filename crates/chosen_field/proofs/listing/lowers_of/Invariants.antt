use Rattle.std.proofs.Common.{◌≡◌, ◌+◌, length}
use Rattle.face_poset.specs.Poset.{count}
use Rattle.chosen_field.specs.Listings.{AreLowers}
use Rattle.chosen_field.proofs.listing.lowers_of.Given as goal

abbrev pub invariant-loop-index : goal.invariant-loop-index
invariant-loop-index g l = (length l.lowers.items ≡ count (g.G.Graded.space l.graded) (l.dim + 1)) × AreLowers l.uppers l.index l.lowers.items
