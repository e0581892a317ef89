use Rattle.tuple_spaces.proofs.VoxelRegularity.{kept_regular}
use Rattle.tuple_spaces.proofs.laws.kept_voxel_spaces_are_regular.Goals as goal

pub returns : goal.returns
returns c = kept_regular
