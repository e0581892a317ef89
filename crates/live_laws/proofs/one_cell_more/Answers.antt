use Rattle.live_laws.proofs.Bound.{one_cell_more}
use Rattle.live_laws.proofs.one_cell_more.Goals as goal

pub returns : goal.returns
returns c = one_cell_more
