use Rattle.std.proofs.Common.{◌≡◌, ◌-◌, ◌≤◌, ℕ, length, take}
use Rattle.chosen_field.specs.Listings.{at, leaving}
use Rattle.chosen_field.proofs.listing.pass.Given as goal

abbrev pub invariant-loop-cell : goal.invariant-loop-cell
invariant-loop-cell l =
    (length l.waits ≡ length l.fn.waits) × ((cell : ℕ) → 1 ≤ cell → at l.waits cell ≡ at l.fn.waits cell - leaving l.lowers (take l.cell-index l.cells) cell)
