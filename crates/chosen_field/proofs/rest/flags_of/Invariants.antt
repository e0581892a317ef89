use Rattle.std.proofs.Common.{◌≡◌, ◌≤◌, ℕ, length, take}
use Rattle.number_lists.specs.Words.{holds}
use Rattle.vector_field.specs.Stages.{is_left}
use Rattle.chosen_field.proofs.rest.flags_of.Given as goal

abbrev pub invariant-loop-cell : goal.invariant-loop-cell
invariant-loop-cell l = (length l.flags.items ≡ l.most) × ((c : ℕ) → 1 ≤ c → is_left l.flags.items c ≡ holds (take l.cell-index l.cells) c)
