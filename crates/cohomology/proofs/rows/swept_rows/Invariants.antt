use Rattle.std.proofs.Common.{◌≡◌, ℕ, List, length, take}
use Rattle.cohomology.specs.Swept.{front, ArePivots, AreSwept}
use Rattle.cohomology.proofs.rows.swept_rows.Given as goal

abbrev pub invariant-loop-index : goal.invariant-loop-index
invariant-loop-index g l = record {
  cols : l.swept.cols ≡ l.fn.rows.cols;
  long : length l.swept.rows ≡ l.index;
  swept : (pivots : List ℕ) → ArePivots l.fn.form.cols l.fn.form.rows pivots → AreSwept g.F.Field.ops l.fn.form.cols (front l.fn.form.rows) pivots (take l.index l.fn.rows.rows) l.swept.rows;
}
