use Rattle.std.proofs.Common.{◌≡◌, false, take}
use Rattle.voxel_spaces.specs.ArcComplements.{any_row, row_from}
use Rattle.voxel_spaces.proofs.arc_rows.has_row_from.Given as goal

abbrev pub invariant-loop-index : goal.invariant-loop-index
invariant-loop-index l = any_row (row_from l.x l.y) 1 (take l.index l.rows) ≡ false
