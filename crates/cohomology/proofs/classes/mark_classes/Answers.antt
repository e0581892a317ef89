use Rattle.std.proofs.Common.{ℕ, ◌∙◌, ap, subst, arith}
use Rattle.std.proofs.lemmas.List.{take_all}
use Rattle.linear_laws.specs.Marks.{identity, mark}
use Rattle.linear_laws.proofs.CallerLemmas.{length-identity}
use Rattle.cohomology.specs.Bases.{AreLinesFor}
use Rattle.split_laws.specs.Kinds.{criticals}
use Rattle.critical_complex.specs.Levels.{kinds_at}
use Rattle.cohomology.proofs.ClassLemmas.{marks_more}
use Rattle.cohomology.proofs.classes.mark_classes.Goals as goal

pub loop-place-preserved : goal.loop-place-preserved
loop-place-preserved g c =
    marks_more g.F.Field.ops c.args.reduced.now c.args.dim c.loop-place.place (criticals (kinds_at c.args.reduced.now c.args.dim)) c.loop-place.lines.items c.push.new.self.items c.in_ok-mark.mark c.in_ok-class_line.field-0
    (omega (arith, c.loop-place-test.true, c.criticals-count.ensures)) c.loop-place.invariant (c.in_ok-class_line.ensures)
    (c.in_ok-mark.ensures ∙ ap (λ n. mark n c.loop-place.place) c.criticals-count.ensures) (c.in_ok-push.ensures.items)

pub returns : goal.returns
returns g c =
    let count : ℕ = criticals (kinds_at c.args.reduced.now c.args.dim) in
    subst (λ us. AreLinesFor g.F.Field.ops c.args.reduced.now c.args.dim us us c.loop-place.lines.items)
    (take_all c.loop-place.place (identity count) (omega (arith, c.loop-place-test.false, c.criticals-count.ensures, length-identity count))) c.loop-place.invariant
