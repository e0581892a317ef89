use Rattle.std.proofs.Common.{◌≡◌, false, take}
use Rattle.voxel_spaces.specs.ArcComplements.{any_row, by_row}
use Rattle.voxel_spaces.proofs.arc_rows.takes_row.Given as goal

abbrev pub invariant-loop-index : goal.invariant-loop-index
invariant-loop-index l = any_row (by_row l.x l.y l.z) 1 (take l.index l.rows) ≡ false
