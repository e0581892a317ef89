use Rattle.std.proofs.Common.{sym}
use Rattle.voxel_spaces.specs.ArcComplements.{row_from}
use Rattle.voxel_spaces.proofs.AnyRow.{any-at, none-more}
use Rattle.voxel_spaces.proofs.arc_rows.has_row_from.Goals as goal

pub returns-then-is_from : goal.returns-then-is_from
returns-then-is_from c = sym (any-at (row_from c.args.x c.args.y) 1 c.args.rows.now c.loop-index.index (0, 0) c.loop-index-test.true (sym c.if-is_from.ensures))

pub loop-index-preserved : goal.loop-index-preserved
loop-index-preserved c = none-more (row_from c.args.x c.args.y) 1 c.args.rows.now c.loop-index.index (0, 0) c.loop-index-test.true c.loop-index.invariant (sym c.if-is_from.ensures)
