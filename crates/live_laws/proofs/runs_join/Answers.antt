use Rattle.live_laws.proofs.Resume.{runs_join}
use Rattle.live_laws.proofs.runs_join.Goals as goal

pub returns : goal.returns
returns c = runs_join
