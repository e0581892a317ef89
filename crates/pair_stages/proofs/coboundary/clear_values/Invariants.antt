use Rattle.std.proofs.Common.{replicate, take}
use Rattle.split_laws.specs.Kinds.{criticals}
use Rattle.pair_stages.proofs.Rows.{IsMixed}
use Rattle.pair_stages.proofs.coboundary.clear_values.Given as goal

abbrev pub invariant-loop-index : goal.invariant-loop-index
invariant-loop-index g l = IsMixed l.next.kinds l.fn.values (replicate (criticals l.next.kinds) 0) l.values (take l.index l.reach.found.found)
