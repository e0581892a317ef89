use Rattle.std.proofs.Common.{◌≡◌}
use Rattle.sphere_collapses.specs.Trees.{IsCrossing}
use Rattle.sphere_collapses.proofs.tree.take_across.Given as goal

abbrev pub invariant-loop-link : goal.invariant-loop-link
invariant-loop-link l = (l.found.most ≡ l.fn.found.most) × IsCrossing l.links l.fn.found.found l.fn.tree.items l.at l.link-index l.found.found l.tree.items
