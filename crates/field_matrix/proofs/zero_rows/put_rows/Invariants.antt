use Rattle.std.proofs.Common.{◌≡◌, length, take}
use Rattle.linear_laws.specs.ZeroRows.{put_rows}
use Rattle.field_matrix.proofs.zero_rows.put_rows.Given as goal

abbrev pub invariant-loop-index : goal.invariant-loop-index
invariant-loop-index g l = record {
  cols : l.whole.cols ≡ l.fn.whole.cols;
  long : length l.whole.rows ≡ length l.fn.whole.rows;
  rows : l.whole.rows ≡ put_rows (take l.index l.places) (take l.index l.from.rows) l.fn.whole.rows;
}
