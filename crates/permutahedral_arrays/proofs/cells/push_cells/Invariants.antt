use Rattle.std.proofs.Common.{◌≡◌, ◌++◌, take}
use Rattle.permutahedral_arrays.specs.Places.{cells_at}
use Rattle.permutahedral_arrays.proofs.cells.push_cells.Given as goal

abbrev pub invariant-loop-index : goal.invariant-loop-index
invariant-loop-index l = l.cells ≡ l.initial.cells ++ cells_at l.slab l.row l.marks (take l.index l.shapes) l.first
