use Rattle.std.proofs.Common.{◌≡◌, take}
use Rattle.std.specs.List.{flat_map}
use Rattle.permutahedral_arrays.specs.Places.{longer}
use Rattle.permutahedral_arrays.proofs.shapes.list_longer.Given as goal

abbrev pub invariant-loop-index : goal.invariant-loop-index
invariant-loop-index l = l.all ≡ flat_map (longer l.vectors) (take l.index l.shapes)
