use Rattle.std.proofs.Common.{◌-◌, length}
use Rattle.voxel_spaces.proofs.box_places.+volume_from.Given as goal

abbrev pub decreases-volume_from : goal.decreases-volume_from
decreases-volume_from l = length l.limits.now - l.level
