use Rattle.std.proofs.Common.{sym}
use Rattle.voxel_spaces.specs.ArcComplements.{row_up_to}
use Rattle.voxel_spaces.proofs.AnyRow.{any-at, none-more}
use Rattle.voxel_spaces.proofs.arc_rows.has_row_up_to.Goals as goal

pub returns-then-is_up_to : goal.returns-then-is_up_to
returns-then-is_up_to c = sym (any-at (row_up_to c.args.x c.args.y) 1 c.args.rows.now c.loop-index.index (0, 0) c.loop-index-test.true (sym c.if-is_up_to.ensures))

pub loop-index-preserved : goal.loop-index-preserved
loop-index-preserved c = none-more (row_up_to c.args.x c.args.y) 1 c.args.rows.now c.loop-index.index (0, 0) c.loop-index-test.true c.loop-index.invariant (sym c.if-is_up_to.ensures)
