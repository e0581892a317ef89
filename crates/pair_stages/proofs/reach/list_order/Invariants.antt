use Rattle.std.proofs.Common.{take}
use Rattle.pair_stages.proofs.Searched.{IsListed}
use Rattle.pair_stages.proofs.reach.list_order.Given as goal

abbrev pub invariant-loop-index : goal.invariant-loop-index
invariant-loop-index g l = IsListed l.next.kinds l.indexes (take l.index l.found.found) l.order.items
