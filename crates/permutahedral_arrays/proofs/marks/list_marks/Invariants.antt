use Rattle.std.proofs.Common.{◌≡◌, map}
use Rattle.std.specs.List.{range_with_len}
use Rattle.permutahedral_arrays.specs.Places.{mark_of}
use Rattle.permutahedral_arrays.proofs.marks.list_marks.Given as goal

abbrev pub invariant-loop-place : goal.invariant-loop-place
invariant-loop-place l = l.marks.items ≡ map (mark_of l.grid.planes l.grid.rows l.grid.columns l.bits) (range_with_len 0 l.place)
