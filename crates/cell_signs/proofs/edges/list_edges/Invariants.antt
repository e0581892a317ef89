use Rattle.std.proofs.Common.{◌≡◌}
use Rattle.cell_signs.specs.Minus.{first_lists}
use Rattle.cell_signs.proofs.edges.list_edges.Given as goal

abbrev pub invariant-loop-index : goal.invariant-loop-index
invariant-loop-index l = l.lists ≡ first_lists l.regular l.index
