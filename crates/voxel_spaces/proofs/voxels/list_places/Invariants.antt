use Rattle.std.proofs.Common.{◌≡◌, take}
use Rattle.std.specs.List.{flat_map}
use Rattle.voxel_spaces.specs.Places.{face_places, voxel_place}
use Rattle.voxel_spaces.proofs.voxels.list_places.Given as goal

abbrev pub invariant-loop-index : goal.invariant-loop-index
invariant-loop-index l = l.places.items ≡ flat_map (λ i. face_places l.strides (voxel_place l.sides l.strides i)) (take l.index-index l.indices)
