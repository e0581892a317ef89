use Rattle.local_field.proofs.Flagged.{spaces_flagged}
use Rattle.local_field.proofs.laws.spaces_are_flagged.Goals as goal

pub returns : goal.returns
returns c space collapse valid regular collapsing = spaces_flagged c.cycles_go_round.ensures space collapse valid regular collapsing
