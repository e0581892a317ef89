use Rattle.std.proofs.Common.{◌≡◌, length, drop}
use Rattle.pair_stages.specs.Columns.{add_on}
use Rattle.pair_stages.proofs.columns.add_over.Given as goal

abbrev pub invariant-loop-index : goal.invariant-loop-index
invariant-loop-index g l = record {
  long : length l.chain ≡ length l.initial.chain;
  rest : add_on g.F.Field.ops (drop l.index l.cells) (drop l.index l.values) (g.F.Field.number_of l.factor) l.chain ≡ add_on g.F.Field.ops l.cells l.values (g.F.Field.number_of l.factor) l.initial.chain;
}
