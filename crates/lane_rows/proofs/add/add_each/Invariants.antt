use Rattle.std.proofs.Common.{◌≡◌, ℕ, ◌+◌, ◌*◌, ◌%◌, ◌<◌, ◌≤◌, get_or}
use Rattle.lane_rows.proofs.add.add_each.Given as goal

abbrev pub invariant-loop-i : goal.invariant-loop-i
invariant-loop-i l = record {
  done : (k : ℕ) → k < l.i → get_or l.target k 0 ≡ (get_or l.fn.target k 0 + l.factor * get_or l.source k 0) % l.p;
  rest : (k : ℕ) → l.i ≤ k → get_or l.target k 0 ≡ get_or l.fn.target k 0;
}
