use Rattle.facet_reader.proofs.ChainLemmas.{below_least}
use Rattle.facet_reader.proofs.laws.below_is_least.Goals as goal

pub returns : goal.returns
returns c = below_least
