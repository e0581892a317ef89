use Rattle.sheet_tables.proofs.SpotLemmas.{spot-is, spot-back}
use Rattle.sheet_tables.proofs.laws.spot_is_spelled.Goals as goal

pub returns : goal.returns
returns c = λ text component sheets cells. (spot-is text component sheets cells, spot-back text component sheets cells)
