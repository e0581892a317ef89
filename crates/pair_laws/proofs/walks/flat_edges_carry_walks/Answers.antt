use Rattle.pair_laws.proofs.Joins.{flat_walk}
use Rattle.pair_laws.proofs.walks.flat_edges_carry_walks.Goals as goal

pub returns : goal.returns
returns c = flat_walk
