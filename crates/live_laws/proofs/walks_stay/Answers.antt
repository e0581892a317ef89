use Rattle.live_laws.proofs.Sound.{trace_stays}
use Rattle.live_laws.proofs.walks_stay.Goals as goal

pub returns : goal.returns
returns c = trace_stays
