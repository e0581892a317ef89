use Rattle.std.proofs.Common.{◌≡◌, ◌-◌, map, take, get_or}
use Rattle.space_parts.proofs.making.list_places.Given as goal

abbrev pub invariant-loop-cell : goal.invariant-loop-cell
invariant-loop-cell l = l.list.items ≡ map (λ c. get_or l.places (c - 1) 0) (take l.cell-index l.cells)
