use Rattle.std.proofs.Common.{◌≡◌, ◌<◌, drop}
use Rattle.cohomology.proofs.Entered.{products}
use Rattle.cohomology.proofs.entries.value_on.Given as goal

abbrev pub invariant-loop-index : goal.invariant-loop-index
invariant-loop-index g l = record {
  below : g.F.Field.number_of l.sum < g.F.Field.ops.size;
  is :
      g.F.Field.ops.add (g.F.Field.number_of l.sum) (products g.F.Field.ops g.met.F.Field.laws l.fn.x (drop l.index l.fn.entries))
      ≡ products g.F.Field.ops g.met.F.Field.laws l.fn.x l.fn.entries;
}
