use Rattle.std.proofs.Common.{◌≡◌, ◌<◌, drop}
use Rattle.pair_stages.specs.Columns.{sum_on}
use Rattle.pair_stages.proofs.columns.sum_over.Given as goal

abbrev pub invariant-loop-index : goal.invariant-loop-index
invariant-loop-index g l = record {
  below : g.F.Field.number_of l.total < g.F.Field.ops.size;
  sum : g.F.Field.ops.add (g.F.Field.number_of l.total) (sum_on g.F.Field.ops (drop l.index l.cells) (drop l.index l.values) l.y) ≡ sum_on g.F.Field.ops l.cells l.values l.y;
}
