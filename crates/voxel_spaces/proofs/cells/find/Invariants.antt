use Rattle.std.proofs.Common.{◌≡◌, ◌≤◌, ◌<◌, ◌-◌, ℕ, get_or, length}
use Rattle.voxel_spaces.proofs.cells.find.Given as goal

abbrev pub invariant-loop-high : goal.invariant-loop-high
invariant-loop-high l = record {
  inside : l.high ≤ length l.places;
  between : (w : ℕ) × (l.low ≤ w) × (w < l.high) × (get_or l.places w 0 ≡ l.place);
}

abbrev pub decreases-loop-high : goal.decreases-loop-high
decreases-loop-high l = l.high - l.low
