use Rattle.cohomology.proofs.Writing.{bound_is, coefficients_fit, into_long, is_some}
use Rattle.cohomology.proofs.written.bound_by.Goals as goal

pub solve-requires-clause-right : goal.solve-requires-clause-right
solve-requires-clause-right g c = into_long g.F.Field.ops g.met.F.Field.laws c.args.reduced.now c.args.dim c.args.echelon.now c.requires.echelon c.args.w.now c.requires.into

pub unwrap-coefficients-requires : goal.unwrap-coefficients-requires
unwrap-coefficients-requires g c =
    is_some g.F.Field.ops g.met.F.Field.laws c.args.reduced.now c.args.dim c.args.echelon.now c.requires.echelon c.args.w.now c.requires.into c.in_ok-solve.field-0 c.in_ok-solve.ensures

pub spread_values-requires-clause-count : goal.spread_values-requires-clause-count
spread_values-requires-clause-count g c =
    coefficients_fit g.F.Field.ops g.met.F.Field.laws c.args.reduced.now c.args.dim c.args.echelon.now c.requires.echelon c.args.w.now c.in_ok-solve.field-0 c.unwrap-coefficients.result c.in_ok-solve.ensures c.unwrap-coefficients.ensures

pub returns : goal.returns
returns g c =
    bound_is g.F.Field.ops g.met.F.Field.laws c.args.reduced.now c.args.dim c.args.echelon.now c.requires.echelon c.args.w.now c.in_ok-solve.field-0 c.unwrap-coefficients.result c.in_ok-solve.ensures c.unwrap-coefficients.ensures c.solutions_are_one.ensures c.critical-complex.ensures.complex
    c.in_ok-values.values c.in_ok-values.ensures c.in_ok-bound.bound c.in_ok-bound.ensures c.args.y.now c.add.new.x c.add.ensures
