use Rattle.sheet_tables.proofs.PositionLemmas.{position-is, position-back}
use Rattle.sheet_tables.proofs.laws.position_is_spelled.Goals as goal

pub returns : goal.returns
returns c = λ text sheets cells. (position-is text sheets cells, λ h. position-back text sheets cells h.0 h.1)
