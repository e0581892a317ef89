use Rattle.live_laws.proofs.Resume.{live_in_order, live_resumes}
use Rattle.live_laws.proofs.live_tables_are_in_order.Goals as goal

pub returns : goal.returns
returns c = record { order = live_in_order; behind = live_resumes }
