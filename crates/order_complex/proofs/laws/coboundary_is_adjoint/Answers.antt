use Rattle.order_complex.proofs.Evaluation.{evaluation-coboundary}
use Rattle.order_complex.proofs.Ordered.{ordered-chains_of}
use Rattle.order_complex.specs.Chains.{chains_of}
use Rattle.std.proofs.Common.{suc}
use Rattle.order_complex.proofs.laws.coboundary_is_adjoint.Goals as goal

pub returns : goal.returns
returns g c = λ space degree x y v w.
    evaluation-coboundary g.F.Field.ops g.met.F.Field.laws (chains_of space degree) (chains_of space (suc degree)) x y (ordered-chains_of space degree) v w.long
