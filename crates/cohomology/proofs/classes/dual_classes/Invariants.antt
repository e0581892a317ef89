use Rattle.cohomology.specs.Bases.{HaveDuals}
use Rattle.cohomology.proofs.classes.dual_classes.Given as goal

abbrev pub invariant-loop-place : goal.invariant-loop-place
invariant-loop-place g l = HaveDuals g.F.Field.ops l.fn.reduced l.fn.dim l.fn.form.cols l.fn.form.rows l.fn.zs.rows l.place l.lines.items
