use Rattle.std.proofs.Common.{◌≡◌, length, drop}
use Rattle.pair_stages.specs.Reaches.{cleared}
use Rattle.pair_stages.proofs.coboundary.clear.Given as goal

abbrev pub invariant-loop-pair : goal.invariant-loop-pair
invariant-loop-pair g l = record {
  long : length l.x ≡ length l.initial.x;
  rest : cleared (drop l.pair-index l.pairs) l.x ≡ cleared l.pairs l.initial.x;
}
