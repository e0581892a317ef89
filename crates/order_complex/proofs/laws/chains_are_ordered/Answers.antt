use Rattle.order_complex.proofs.Ordered.{ordered-chains_of}
use Rattle.order_complex.proofs.laws.chains_are_ordered.Goals as goal

pub returns : goal.returns
returns c = ordered-chains_of
