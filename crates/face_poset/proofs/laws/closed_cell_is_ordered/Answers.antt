use Rattle.face_poset.proofs.BelowLaw.{closed_cell-ordered}
use Rattle.face_poset.proofs.laws.closed_cell_is_ordered.Goals as goal

pub returns : goal.returns
returns c = closed_cell-ordered
