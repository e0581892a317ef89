use Rattle.std.proofs.Common.{◌≡◌, ◌≤◌, ◌-◌, ◌*◌, get_or, sum_by, take}
use Rattle.order_complex.proofs.counts.sum_at.Given as goal

abbrev pub invariant-loop-cell : goal.invariant-loop-cell
invariant-loop-cell l = (l.total ≡ sum_by (λ cell. get_or l.counts (cell - 1) 0) (take l.cell-index l.cells)) × (l.total ≤ 3600000000 * l.cell-index)
