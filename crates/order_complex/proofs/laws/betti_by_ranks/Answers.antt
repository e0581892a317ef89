use Rattle.order_complex.proofs.Bases.{betti_by_ranks}
use Rattle.order_complex.proofs.laws.betti_by_ranks.Goals as goal

pub returns : goal.returns
returns g c = betti_by_ranks g.F.Field.ops g.met.F.Field.laws
