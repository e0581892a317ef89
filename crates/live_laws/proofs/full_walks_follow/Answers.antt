use Rattle.live_laws.proofs.Whole.{full_walks_follow}
use Rattle.live_laws.proofs.full_walks_follow.Goals as goal

pub returns : goal.returns
returns c = full_walks_follow
