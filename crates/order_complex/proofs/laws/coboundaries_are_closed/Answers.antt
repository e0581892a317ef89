use Rattle.order_complex.proofs.Twice.{coboundary-coboundary}
use Rattle.order_complex.proofs.laws.coboundaries_are_closed.Goals as goal

pub returns : goal.returns
returns g c = coboundary-coboundary g.F.Field.ops g.met.F.Field.laws
