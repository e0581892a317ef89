use Rattle.std.proofs.Common.{◌≡◌, length, drop}
use Rattle.split_laws.specs.Pairs.{settle}
use Rattle.pair_stages.proofs.substitution.settle.Given as goal

abbrev pub invariant-loop-pair : goal.invariant-loop-pair
invariant-loop-pair g l = record {
  long : length l.y ≡ length l.columns.rows;
  rest : settle g.F.Field.ops l.columns.rows l.t (drop l.pair-index l.pairs) l.y ≡ settle g.F.Field.ops l.columns.rows l.t l.pairs l.initial.y;
}
