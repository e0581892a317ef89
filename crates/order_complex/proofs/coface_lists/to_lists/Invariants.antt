use Rattle.std.proofs.Common.{◌≡◌, take}
use Rattle.order_complex.proofs.coface_lists.to_lists.Given as goal

abbrev pub invariant-loop-index : goal.invariant-loop-index
invariant-loop-index g l = l.lists ≡ take l.index l.rows
