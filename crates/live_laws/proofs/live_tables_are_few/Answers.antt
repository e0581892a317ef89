use Rattle.live_laws.proofs.Bound.{live_at_most}
use Rattle.live_laws.proofs.live_tables_are_few.Goals as goal

pub returns : goal.returns
returns c = live_at_most
