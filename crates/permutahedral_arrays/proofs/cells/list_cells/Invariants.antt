use Rattle.std.proofs.Common.{◌≡◌, ◌≤◌, length}
use Rattle.std.specs.List.{flat_map, range_with_len}
use Rattle.permutahedral_arrays.specs.Places.{cells_at}
use Rattle.permutahedral_arrays.proofs.cells.list_cells.Given as goal

abbrev pub invariant-loop-index : goal.invariant-loop-index
invariant-loop-index l = record {
  found : l.cells ≡ flat_map (cells_at l.slab l.row l.marks l.shapes) (range_with_len 1 l.index);
  few : length l.cells ≤ 60000;
}
