use Rattle.std.proofs.Common.{◌≡◌, take}
use Rattle.linear_laws.specs.Vectors.{boundary}
use Rattle.split_laws.specs.Kinds.{spread}
use Rattle.pair_stages.proofs.flow.boundary_of_spread.Given as goal

abbrev pub invariant-loop-index : goal.invariant-loop-index
invariant-loop-index g l = l.boundary ≡ boundary g.F.Field.ops l.stage.rows (spread l.next.kinds (take l.index l.c))
