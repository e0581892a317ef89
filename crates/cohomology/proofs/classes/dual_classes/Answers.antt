use Rattle.std.proofs.Common.{◌≤◌, length, subst, arith}
use Rattle.cohomology.specs.Bases.{IsClassFor}
use Rattle.cohomology.specs.Swept.{ArePivots}
use Rattle.cohomology.proofs.ClassLemmas.{duals_more}
use Rattle.cohomology.proofs.classes.dual_classes.Goals as goal

pub loop-place-preserved : goal.loop-place-preserved
loop-place-preserved g c =
    let few : length c.requires.zs.is.pivots ≤ length c.args.zs.now.rows = c.requires.zs.is.reduced.few in
    duals_more g.F.Field.ops c.args.reduced.now c.args.dim c.args.form.now.cols c.loop-place.place c.args.form.now.rows c.args.zs.now.rows c.loop-place.lines.items c.push.new.self.items c.in_ok-v.v c.in_ok-class_line.field-0
    (omega (arith, few, c.loop-place-test.true, c.rank-place-end.ensures.rank, c.requires.zs.is.rank_is)) c.loop-place.invariant
    (subst (λ z. IsClassFor g.F.Field.ops c.args.reduced.now c.args.dim z c.in_ok-v.v c.in_ok-class_line.field-0) (c.in_ok-z.ensures) (c.in_ok-class_line.ensures))
    (λ pivots places p q. c.in_ok-v.ensures pivots places p (subst (λ n. ArePivots n c.args.zs.now.rows places) c.requires.zs_cols q))
    (c.in_ok-push.ensures.items)
