use Rattle.pair_laws.proofs.Joins.{opened}
use Rattle.pair_laws.proofs.walks.opened_rounds_are_chains.Goals as goal

pub returns : goal.returns
returns c = opened
