use Rattle.face_poset.proofs.BelowLaw.{closed_cell-least}
use Rattle.face_poset.proofs.laws.closed_cell_is_least.Goals as goal

pub returns : goal.returns
returns c = closed_cell-least
