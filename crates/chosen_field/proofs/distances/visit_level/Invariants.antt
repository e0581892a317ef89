use Rattle.std.proofs.Common.{◌≡◌, ◌≤◌, ℕ, cond, length}
use Rattle.number_lists.specs.Words.{holds}
use Rattle.chosen_field.specs.Rests.{left_of}
use Rattle.chosen_field.specs.Listings.{at}
use Rattle.chosen_field.specs.Levels.{AreVisited}
use Rattle.chosen_field.proofs.Visits.{segment}
use Rattle.chosen_field.proofs.distances.visit_level.Given as goal

abbrev pub invariant-loop-index : goal.invariant-loop-index
invariant-loop-index g l =
    (l.found.most ≡ l.fn.found.most)
    × (length l.numbers ≡ length l.fn.numbers)
    × (l.head ≤ l.index)
    × AreVisited (g.G.Graded.space l.graded) (left_of l.flags) (segment l.head l.index l.fn.found.found) l.fn.found.found l.found.found
    × ((v : ℕ) → 1 ≤ v → at l.numbers v ≡ cond (holds (segment l.head l.index l.fn.found.found) v) l.round (at l.fn.numbers v))
