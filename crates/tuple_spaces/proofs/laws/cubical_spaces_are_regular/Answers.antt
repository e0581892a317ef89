use Rattle.tuple_spaces.proofs.VoxelRegularity.{arrays_regular}
use Rattle.tuple_spaces.proofs.laws.cubical_spaces_are_regular.Goals as goal

pub returns : goal.returns
returns c = arrays_regular
