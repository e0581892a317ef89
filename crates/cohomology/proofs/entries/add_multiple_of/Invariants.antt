use Rattle.std.proofs.Common.{◌≡◌, drop, length}
use Rattle.cohomology.proofs.Entered.{added}
use Rattle.cohomology.proofs.entries.add_multiple_of.Given as goal

abbrev pub invariant-loop-index : goal.invariant-loop-index
invariant-loop-index g l = record {
  is :
      added g.F.Field.ops g.met.F.Field.laws (g.F.Field.number_of l.fn.factor) l.x (drop l.index l.fn.entries)
      ≡ added g.F.Field.ops g.met.F.Field.laws (g.F.Field.number_of l.fn.factor) l.fn.x l.fn.entries;
  long : length l.x ≡ length l.fn.x;
}
