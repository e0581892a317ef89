use Rattle.std.proofs.Common.{◌≡◌, ◌≤◌, filter, length, take, nat_le}
use Rattle.chosen_field.specs.Listings.{at}
use Rattle.chosen_field.proofs.listing.count_lowers.Given as goal

abbrev pub invariant-loop-cell : goal.invariant-loop-cell
invariant-loop-cell l = (l.number ≤ l.cell-index) × (l.number ≡ length (filter (λ cell. nat_le 1 (at l.uppers cell)) (take l.cell-index l.cells)))
