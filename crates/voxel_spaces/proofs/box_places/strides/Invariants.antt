use Rattle.std.proofs.Common.{◌≡◌, take}
use Rattle.voxel_spaces.specs.BoxTuples.{strides_of}
use Rattle.voxel_spaces.proofs.box_places.strides.Given as goal

abbrev pub invariant-loop-level : goal.invariant-loop-level
invariant-loop-level l = l.strides.items ≡ take l.level (strides_of l.limits)
