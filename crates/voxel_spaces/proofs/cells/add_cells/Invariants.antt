use Rattle.std.proofs.Common.{◌≡◌, take}
use Rattle.voxel_spaces.specs.Places.{stage}
use Rattle.voxel_spaces.proofs.cells.add_cells.Given as goal

abbrev pub invariant-loop-place : goal.invariant-loop-place
invariant-loop-place l = l.builder ≡ stage l.strides l.places l.dim (take l.place-index l.places)
