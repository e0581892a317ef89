use Rattle.std.proofs.Common.{◌≡◌, ℕ, length, sym, ◌∙◌}
use Rattle.std.proofs.lemmas.Bool.{eqb-true}
use Rattle.std.proofs.lemmas.Result.{IfOk-weaker}
use Rattle.linear_laws.specs.Marks.{identity}
use Rattle.split_laws.specs.Kinds.{criticals}
use Rattle.critical_complex.specs.Levels.{kinds_at}
use Rattle.cohomology.specs.Bases.{AreClasses, AreLinesFor}
use Rattle.cohomology.proofs.Cohomology.{classes_by_marks}
use Rattle.cohomology.proofs.classes.class_lines.Goals as goal

pub returns-then-rank-eq0 : goal.returns-then-rank-eq0
returns-then-rank-eq0 g c =
    let n : ℕ = criticals (kinds_at c.args.reduced.now c.args.dim) in
    let empty : length c.filled.result.now ≡ 0 = eqb-true (length c.filled.result.now) 0 (sym c.is_empty.ensures ∙ c.if-is_empty.true) in
    IfOk-weaker c.mark_classes.result (λ lines. AreLinesFor g.F.Field.ops c.args.reduced.now c.args.dim (identity n) (identity n) lines.items) (λ lines. AreClasses g.F.Field.ops c.args.reduced.now c.args.dim lines.items)
    (λ lines. classes_by_marks g.F.Field.ops g.met.F.Field.laws c.solutions_are_one.ensures c.args.reduced.now c.critical-complex.ensures.complex c.args.dim c.args.form.now c.requires.form
    (sym c.rank.ensures.rank ∙ c.if-rank-eq0.true) c.filled.result.now c.filled.ensures empty lines.items) c.mark_classes.ensures
