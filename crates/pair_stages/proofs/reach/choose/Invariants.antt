use Rattle.std.proofs.Common.{◌≡◌, map, take}
use Rattle.pair_stages.specs.Units.{pair_at}
use Rattle.pair_stages.proofs.reach.choose.Given as goal

abbrev pub invariant-loop-index : goal.invariant-loop-index
invariant-loop-index g l = l.chosen.items ≡ map (pair_at l.stage.pairs) (take l.index-index l.order)
