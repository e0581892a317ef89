use Rattle.facet_reader.proofs.ChainLemmas.{orders_regular}
use Rattle.facet_reader.proofs.laws.order_complexes_are_regular.Goals as goal

pub returns : goal.returns
returns c = orders_regular
