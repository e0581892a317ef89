use Rattle.std.proofs.Common.{◌≡◌, take}
use Rattle.permutahedral_arrays.specs.Places.{cell_at}
use Rattle.permutahedral_arrays.proofs.cells.list_points.Given as goal

abbrev pub invariant-loop-vector : goal.invariant-loop-vector
invariant-loop-vector l = l.points.items ≡ cell_at l.slab l.row l.first (take l.vector-index l.shape)
