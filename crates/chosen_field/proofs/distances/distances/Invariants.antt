use Rattle.std.proofs.Common.{◌≡◌}
use Rattle.face_poset.specs.Poset.{count}
use Rattle.chosen_field.specs.Rests.{left_of}
use Rattle.chosen_field.proofs.LevelRounds.{IsLevel}
use Rattle.chosen_field.proofs.distances.distances.Given as goal

abbrev pub invariant-loop-round : goal.invariant-loop-round
invariant-loop-round g l = (l.found.most ≡ count (g.G.Graded.space l.graded) 0) × IsLevel (g.G.Graded.space l.graded) (left_of l.flags) l.round l.head l.found.found l.numbers.items
