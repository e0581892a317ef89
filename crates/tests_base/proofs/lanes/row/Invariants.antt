use Rattle.std.proofs.Common.{◌≡◌, ◌<◌, All, length}
use Rattle.tests_base.proofs.lanes.row.Given as goal

abbrev pub invariant-loop-i : goal.invariant-loop-i
invariant-loop-i l = record {
  long : length l.numbers.items ≡ l.i;
  below : All (λ x. x < l.p) l.numbers.items;
}
