use Rattle.std.proofs.Common.{◌≡◌, ◌≤◌, ◌+◌, drop}
use Rattle.voxel_spaces.specs.Places.{voxel_place}
use Rattle.voxel_spaces.proofs.box_places.voxel.Given as goal

abbrev pub invariant-loop-level : goal.invariant-loop-level
invariant-loop-level l = record {
  total : l.place + voxel_place (drop l.level l.sides) (drop l.level l.strides) l.rest ≡ voxel_place l.sides l.strides l.index;
  less : l.rest ≤ l.index;
}
