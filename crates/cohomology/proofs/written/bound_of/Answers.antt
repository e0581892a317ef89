use Rattle.std.proofs.Common.{◌≡◌}
use Rattle.std.proofs.lemmas.Result.{IfOk-weaker}
use Rattle.cohomology.specs.Written.{IsBoundFor}
use Rattle.cohomology.proofs.Writing.{no_bound}
use Rattle.cohomology.proofs.written.bound_of.Goals as goal

pub returns-in-0 : goal.returns-in-0
returns-in-0 g c =
    IfOk-weaker c.copy_of.result (λ copy. copy ≡ c.args.y.now) (IsBoundFor g.F.Field.ops c.args.reduced.now c.args.degree c.args.w.now c.args.y.now)
    (λ copy e. no_bound g.F.Field.ops g.met.F.Field.laws c.args.reduced.now c.args.degree c.in-0.is c.args.w.now c.args.y.now copy c.requires.into c.requires.below e) c.copy_of.ensures
