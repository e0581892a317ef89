use Rattle.std.proofs.Common.{◌≡◌}
use Rattle.permutahedral_arrays.specs.Places.{shapes_of}
use Rattle.permutahedral_arrays.proofs.shapes.list_shapes.Given as goal

abbrev pub invariant-loop-count : goal.invariant-loop-count
invariant-loop-count l = l.shapes ≡ shapes_of l.vectors l.count
