use Rattle.std.proofs.Common.{◌≡◌, ℕ, ◌*◌, ◌%◌, ◌<◌, length, get_or}
use Rattle.lane_rows.proofs.table.multiples_by.Given as goal

abbrev pub invariant-loop-i : goal.invariant-loop-i
invariant-loop-i l = record {
  long : length l.products ≡ 16;
  done : (k : ℕ) → k < l.i → get_or l.products k 0 ≡ (l.factor * k) % l.p;
}
