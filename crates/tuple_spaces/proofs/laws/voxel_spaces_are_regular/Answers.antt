use Rattle.tuple_spaces.proofs.VoxelRegularity.{voxels_regular}
use Rattle.tuple_spaces.proofs.laws.voxel_spaces_are_regular.Goals as goal

pub returns : goal.returns
returns c = voxels_regular
