use Rattle.std.proofs.Common.{◌≡◌, length}
use Rattle.face_poset.specs.Poset.{count}
use Rattle.chosen_field.specs.Rests.{AreCounts}
use Rattle.chosen_field.proofs.rest.Rest.new.Given as goal

abbrev pub invariant-loop-index : goal.invariant-loop-index
invariant-loop-index g l =
    (length l.shared ≡ count (g.G.Graded.space l.graded) l.dim)
    × AreCounts (g.G.Graded.space l.graded) l.dim l.index l.flags.items l.shared
