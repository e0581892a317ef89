use Rattle.std.proofs.Common.{◌≡◌, take}
use Rattle.split_laws.specs.Kinds.{spread}
use Rattle.pair_stages.proofs.stage.Stage.spread.Given as goal

abbrev pub invariant-loop-index : goal.invariant-loop-index
invariant-loop-index g l = l.x ≡ spread l.self.kinds (take l.index l.w)
