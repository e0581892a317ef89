use Rattle.std.proofs.Common.{◌≡◌, ◌≤◌, filter, length, take}
use Rattle.vector_field.specs.Stages.{is_left}
use Rattle.chosen_field.proofs.rest.count_left.Given as goal

abbrev pub invariant-loop-cell : goal.invariant-loop-cell
invariant-loop-cell l = (l.number ≤ l.cell-index) × (l.number ≡ length (filter (is_left l.cells) (take l.cell-index l.among)))
