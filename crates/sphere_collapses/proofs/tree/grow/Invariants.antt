use Rattle.std.proofs.Common.{◌≡◌, ◌-◌}
use Rattle.sphere_collapses.specs.Trees.{IsPassed}
use Rattle.sphere_collapses.proofs.tree.grow.Given as goal

abbrev pub invariant-loop-head : goal.invariant-loop-head
invariant-loop-head l = (l.found.most ≡ l.nodes) × IsPassed l.links l.root l.head l.found.found l.tree.items

abbrev pub decreases-loop-head : goal.decreases-loop-head
decreases-loop-head l = l.found.most - l.head
