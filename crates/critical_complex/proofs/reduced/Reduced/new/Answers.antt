use Rattle.std.proofs.Common.{refl}
use Rattle.critical_complex.proofs.Reductions.{is_reduced, reduction_is}
use Rattle.critical_complex.proofs.reduced.Reduced.new.Goals as goal

pub invariant_of-result : goal.invariant_of-result
invariant_of-result g c = (
  is_reduced g.F.Field.ops c.in_ok-stages.stages g.met.F.Field.laws c.in_ok-stages.ensures.splitting c.in_ok-stages.ensures.complex,
  c.in_ok-stages.ensures.splitting,
  c.in_ok-filled.ensures,
)

pub returns-clause-reduction : goal.returns-clause-reduction
returns-clause-reduction g c = reduction_is g.F.Field.ops c.in_ok-stages.stages (g.G.Graded.space c.args.graded.now) (g.G.Signed.negative c.args.graded.now) c.args.field.now.pairs c.in_ok-stages.ensures.reduction

pub returns-clause-complex : goal.returns-clause-complex
returns-clause-complex g c = is_reduced g.F.Field.ops c.in_ok-stages.stages g.met.F.Field.laws c.in_ok-stages.ensures.splitting c.in_ok-stages.ensures.complex
