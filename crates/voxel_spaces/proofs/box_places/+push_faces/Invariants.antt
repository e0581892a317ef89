use Rattle.std.proofs.Common.{◌-◌, length}
use Rattle.voxel_spaces.proofs.box_places.+push_faces.Given as goal

abbrev pub decreases-push_faces : goal.decreases-push_faces
decreases-push_faces l = length l.strides.now - l.level
