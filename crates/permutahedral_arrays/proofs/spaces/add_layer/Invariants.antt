use Rattle.std.proofs.Common.{◌≡◌, take, map, set}
use Rattle.permutahedral_arrays.specs.Places.{facets_of}
use Rattle.permutahedral_arrays.proofs.spaces.add_layer.Given as goal

abbrev pub invariant-loop-index : goal.invariant-loop-index
invariant-loop-index l = l.builder ≡ set l.initial.builder l.dim (map (facets_of l.above) (take l.index l.cells))
