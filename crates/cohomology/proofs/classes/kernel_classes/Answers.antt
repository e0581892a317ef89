use Rattle.std.proofs.Common.{◌≡◌, ◌+◌, suc, ap, ◌∙◌, arith}
use Rattle.std.proofs.lemmas.Result.{IfOk-weaker}
use Rattle.linear_laws.specs.Echelon.{rank_of}
use Rattle.split_laws.specs.Kinds.{criticals}
use Rattle.critical_complex.specs.Levels.{kinds_at}
use Rattle.cohomology.specs.Bases.{AreClasses, HaveDuals}
use Rattle.cohomology.proofs.ClassLemmas.{reduced_index}
use Rattle.cohomology.proofs.Cohomology.{case_clear, case_classes}
use Rattle.cohomology.proofs.classes.kernel_classes.Goals as goal

pub dual_classes-requires-clause-clear : goal.dual_classes-requires-clause-clear
dual_classes-requires-clause-clear g c =
    let up : c.args.dim + 1 ≡ suc c.args.dim = omega arith in
    let out = reduced_index g.F.Field.ops c.args.reduced.now c.args.dim c.in_ok-rows.rows.rows c.in_ok-rows.ensures.rows in
    case_clear g.F.Field.ops g.met.F.Field.laws c.solutions_are_one.ensures c.args.reduced.now c.in_ok-rows.ensures.complex c.args.dim c.args.form.now c.requires.form c.in_ok-rows.rows.rows c.in_ok-kernel.kernel.rows c.in_ok-zs.zs.rows
    c.reduce_uncounted.new.rows.rows out c.in_ok-rows.rows.cols (c.in_ok-rows.ensures.cols ∙ ap (λ d. criticals (kinds_at c.args.reduced.now d)) up) c.in_ok-kernel.ensures.basis (c.in_ok-zs.ensures.swept) c.in_ok-zs.zs.cols
    (c.in_ok-zs.ensures.cols ∙ c.in_ok-kernel.ensures.cols ∙ out.long) c.reduce_uncounted.ensures.reduced

pub returns : goal.returns
returns g c =
    let up : c.args.dim + 1 ≡ suc c.args.dim = omega arith in
    let out = reduced_index g.F.Field.ops c.args.reduced.now c.args.dim c.in_ok-rows.rows.rows c.in_ok-rows.ensures.rows in
    IfOk-weaker c.dual_classes.result (λ lines. HaveDuals g.F.Field.ops c.args.reduced.now c.args.dim c.args.form.now.cols c.args.form.now.rows c.reduce_uncounted.new.rows.rows (rank_of c.reduce_uncounted.new.rows.rows) lines.items) (λ lines. AreClasses g.F.Field.ops c.args.reduced.now c.args.dim lines.items)
    (λ lines. case_classes g.F.Field.ops g.met.F.Field.laws c.solutions_are_one.ensures c.args.reduced.now c.in_ok-rows.ensures.complex c.args.dim c.args.form.now c.requires.form c.in_ok-rows.rows.rows c.in_ok-kernel.kernel.rows c.in_ok-zs.zs.rows
    c.reduce_uncounted.new.rows.rows out c.in_ok-rows.rows.cols (c.in_ok-rows.ensures.cols ∙ ap (λ d. criticals (kinds_at c.args.reduced.now d)) up) c.in_ok-kernel.ensures.basis (c.in_ok-zs.ensures.swept) c.in_ok-zs.zs.cols
    (c.in_ok-zs.ensures.cols ∙ c.in_ok-kernel.ensures.cols ∙ out.long) c.reduce_uncounted.ensures.reduced c.reduced_is_closed.ensures c.triangles_are_independent.ensures c.kernels_complete.ensures lines.items) c.dual_classes.ensures
