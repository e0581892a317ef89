use Rattle.face_poset.proofs.CofaceLaw.{cofaces_are}
use Rattle.face_poset.proofs.laws.cofaces_are_cells_above.Goals as goal

pub returns : goal.returns
returns c = cofaces_are
