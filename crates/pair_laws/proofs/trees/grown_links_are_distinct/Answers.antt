use Rattle.pair_laws.proofs.Tree.{grown_distinct}
use Rattle.pair_laws.proofs.trees.grown_links_are_distinct.Goals as goal

pub returns : goal.returns
returns c = grown_distinct
