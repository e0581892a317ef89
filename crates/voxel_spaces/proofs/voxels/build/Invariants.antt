use Rattle.std.proofs.Common.{◌≡◌, []}
use Rattle.voxel_spaces.specs.Places.{stage}
use Rattle.voxel_spaces.proofs.voxels.build.Given as goal

abbrev pub invariant-loop-dim : goal.invariant-loop-dim
invariant-loop-dim l = l.builder ≡ stage l.strides l.places l.dim []
