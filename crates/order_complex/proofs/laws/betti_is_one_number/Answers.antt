use Rattle.order_complex.proofs.Bases.{betti_is_one_number}
use Rattle.order_complex.proofs.laws.betti_is_one_number.Goals as goal

pub returns : goal.returns
returns g c = betti_is_one_number g.F.Field.ops g.met.F.Field.laws
