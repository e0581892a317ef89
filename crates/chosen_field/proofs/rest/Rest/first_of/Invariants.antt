use Rattle.std.proofs.Common.{◌≡◌, ◌<◌, ℕ, false, get_or}
use Rattle.vector_field.specs.Stages.{is_left}
use Rattle.chosen_field.proofs.rest.Rest.first_of.Given as goal

abbrev pub invariant-loop-cell : goal.invariant-loop-cell
invariant-loop-cell l = (k : ℕ) → k < l.cell-index → is_left l.self.cells (get_or l.among k 0) ≡ false
