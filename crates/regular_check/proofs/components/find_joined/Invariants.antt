use Rattle.std.proofs.Common.{◌≡◌, ◌-◌}
use Rattle.regular_check.specs.Components.{share_edge, vertices}
use Rattle.regular_check.proofs.Spreading.{IsSearch}
use Rattle.regular_check.proofs.components.find_joined.Given as goal

abbrev pub invariant-loop-head : goal.invariant-loop-head
invariant-loop-head l = (l.found.most ≡ l.fn.found.most) × IsSearch (share_edge l.space) (vertices l.space) l.start l.head l.found.found

abbrev pub decreases-loop-head : goal.decreases-loop-head
decreases-loop-head l = l.found.most - l.head
