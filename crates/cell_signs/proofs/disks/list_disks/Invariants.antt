use Rattle.std.proofs.Common.{◌≡◌}
use Rattle.cell_signs.specs.Minus.{back_lists}
use Rattle.cell_signs.proofs.disks.list_disks.Given as goal

abbrev pub invariant-loop-index : goal.invariant-loop-index
invariant-loop-index l = l.lists ≡ back_lists l.regular l.index
