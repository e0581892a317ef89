use Rattle.std.proofs.Common.{◌≡◌, ℕ, List, length}
use Rattle.cohomology.specs.Swept.{front, ArePivots, IsSwept}
use Rattle.cohomology.proofs.rows.sweep_row.Given as goal

abbrev pub invariant-loop-index : goal.invariant-loop-index
invariant-loop-index g l = record {
  long : length l.row ≡ l.fn.form.cols;
  swept : (pivots : List ℕ) → ArePivots l.fn.form.cols l.fn.form.rows pivots → IsSwept g.F.Field.ops l.fn.form.cols (front l.fn.form.rows) pivots l.index l.fn.row l.row;
}
