use Rattle.std.proofs.Common.{◌≡◌, ℕ, List, length}
use Rattle.cohomology.specs.Swept.{ArePivots, IsDual}
use Rattle.cohomology.proofs.rows.dual_row.Given as goal

abbrev pub invariant-loop-index : goal.invariant-loop-index
invariant-loop-index g l = record {
  long : length l.v ≡ l.fn.form.cols;
  dual : (pivots places : List ℕ) → ArePivots l.fn.form.cols l.fn.form.rows pivots → ArePivots l.fn.form.cols l.fn.others.rows places → IsDual g.F.Field.ops l.fn.form.cols l.fn.form.rows pivots l.fn.others.rows places l.index l.fn.place l.v;
}
