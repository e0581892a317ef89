use Rattle.std.proofs.Common.{sym}
use Rattle.voxel_spaces.specs.ArcComplements.{by_row}
use Rattle.voxel_spaces.proofs.AnyRow.{any-at, none-more}
use Rattle.voxel_spaces.proofs.arc_rows.takes_row.Goals as goal

pub returns-then-is_taken_by : goal.returns-then-is_taken_by
returns-then-is_taken_by c = sym (any-at (by_row c.args.x c.args.y c.args.z) 1 c.args.rows.now c.loop-index.index (0, 0) c.loop-index-test.true (sym c.if-is_taken_by.ensures))

pub loop-index-preserved : goal.loop-index-preserved
loop-index-preserved c = none-more (by_row c.args.x c.args.y c.args.z) 1 c.args.rows.now c.loop-index.index (0, 0) c.loop-index-test.true c.loop-index.invariant (sym c.if-is_taken_by.ensures)
