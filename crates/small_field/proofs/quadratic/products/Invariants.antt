use Rattle.std.proofs.Common.{◌≡◌, ℕ, ◌*◌, ◌<◌, length, get_or}
use Rattle.small_field.specs.Quadratic.{mul_sums}
use Rattle.small_field.proofs.quadratic.products.Given as goal

abbrev pub invariant-loop-i : goal.invariant-loop-i
invariant-loop-i g l = record {
  long : length l.products ≡ 16;
  done : (k : ℕ) → k < l.i → get_or l.products k 0 ≡ mul_sums g.row.P g.row.C g.row.D l.factor k;
  below : (k : ℕ) → k < l.i → get_or l.products k 0 < g.row.P * g.row.P;
}
