use Rattle.std.proofs.Common.{◌≡◌, false, take}
use Rattle.std.specs.List.{list_any}
use Rattle.cell_signs.proofs.Placed.{other_at}
use Rattle.cell_signs.proofs.solids.find_across.Given as goal

abbrev pub invariant-loop-other : goal.invariant-loop-other
invariant-loop-other l = list_any (other_at l.space l.edge l.disk) (take l.other-index l.disks) ≡ false
