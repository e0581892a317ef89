use Rattle.local_field.proofs.Flagged.{cells_leave}
use Rattle.local_field.proofs.laws.cells_leave_over.Goals as goal

pub returns : goal.returns
returns c space collapse dim number valid regular collapsing small low high = cells_leave c.cycles_go_round.ensures space collapse dim number valid regular collapsing small low high
