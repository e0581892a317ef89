use Rattle.std.proofs.Common.{get_or, refl, arith}
use Rattle.cohomology.proofs.ReducedLines.{critical_many, pivot_below, reduced_line_is}
use Rattle.cohomology.proofs.ranks.reduced_line.Goals as goal

pub bounds-critical-pivot : goal.bounds-critical-pivot
bounds-critical-pivot g c =
    omega (
      arith,
      pivot_below g.F.Field.ops g.met.F.Field.laws c.args.reduced.now c.args.dim c.args.echelon.now c.requires.echelon c.args.index c.pivot.result c.requires.index c.pivot.ensures.pivots,
      critical_many c.args.reduced.now c.args.dim c.critical.result.now c.critical.ensures.critical,
    )

pub returns : goal.returns
returns g c =
    reduced_line_is g.F.Field.ops g.met.F.Field.laws c.args.reduced.now c.args.dim c.solutions_are_one.ensures c.critical.ensures.complex c.args.echelon.now c.requires.echelon c.args.index c.requires.index c.in_ok-history.history c.in_ok-values.values
    c.in_ok-extension.extension c.in_ok-left.left c.in_ok-right.right c.new.result c.in_ok-history.ensures c.in_ok-values.ensures c.in_ok-extension.ensures c.in_ok-left.ensures.entries c.in_ok-left.ensures.cochain c.critical.result.now c.pivot.result
    (get_or c.critical.result.now c.pivot.result 0) 0 c.critical.ensures.critical c.pivot.ensures.pivots refl c.in_ok-right.ensures c.new.ensures.left c.new.ensures.right
