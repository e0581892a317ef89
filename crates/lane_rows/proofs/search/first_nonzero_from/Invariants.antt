use Rattle.std.proofs.Common.{◌≡◌, ℕ, ◌+◌, ◌*◌, ◌<◌, ◌≤◌, get_or}
use Rattle.lane_rows.proofs.search.first_nonzero_from.Given as goal

abbrev pub invariant-loop-chunk : goal.invariant-loop-chunk
invariant-loop-chunk l = (k : ℕ) → l.begin ≤ k → k < l.begin + l.chunk * 16 → get_or l.row k 0 ≡ 0

abbrev pub invariant-loop-i : goal.invariant-loop-i
invariant-loop-i l = (k : ℕ) → l.begin ≤ k → k < l.i → get_or l.row k 0 ≡ 0
