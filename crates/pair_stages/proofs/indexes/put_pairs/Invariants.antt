use Rattle.std.proofs.Common.{ℕ, ◌<◌}
use Rattle.pair_stages.specs.Reaches.{HasPair}
use Rattle.pair_stages.specs.Units.{pair_at}
use Rattle.pair_stages.proofs.indexes.put_pairs.Given as goal

abbrev pub invariant-loop-index : goal.invariant-loop-index
invariant-loop-index g l = (k : ℕ) → k < l.index → HasPair l.stage.pairs l.indexes ((pair_at l.stage.pairs k).upper)
