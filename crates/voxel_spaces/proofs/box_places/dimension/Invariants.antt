use Rattle.std.proofs.Common.{◌≡◌, ◌≤◌, ◌+◌, drop}
use Rattle.voxel_spaces.specs.Places.{dim_at}
use Rattle.voxel_spaces.proofs.box_places.dimension.Given as goal

abbrev pub invariant-loop-stride : goal.invariant-loop-stride
invariant-loop-stride l = record {
  total : l.odd + dim_at (drop l.stride-index l.strides) l.rest ≡ dim_at l.strides l.place;
  few : l.odd ≤ l.stride-index;
}
