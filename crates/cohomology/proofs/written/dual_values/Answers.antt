use Rattle.std.proofs.Common.{◌≡◌, ◌+◌, ◌-◌, length, set, ap, sym, ◌∙◌, arith}
use Rattle.std.proofs.lemmas.List.{length-map}
use Rattle.linear_laws.specs.Vectors.{dot}
use Rattle.chain_laws.specs.Lines.{cochain_of}
use Rattle.chain_laws.specs.AllLines.{right_sides}
use Rattle.cohomology.proofs.RowSteps.{copied, copied_more}
use Rattle.cohomology.proofs.Writing.{value_source, values_on}
use Rattle.cohomology.proofs.written.dual_values.Goals as goal

pub loop-index-preserved : goal.loop-index-preserved
loop-index-preserved g c =
    copied_more c.in_ok-count.count c.loop-index.index (g.F.Field.number_of c.value_on-value.result) (values_on g.F.Field.ops (length c.args.x.now) c.args.lines.now c.args.x.now) c.loop-index.values c.set.new.self c.loop-index-test.true c.loop-index.invariant
    (c.set.ensures ∙ ap (λ k. set c.loop-index.values k (g.F.Field.number_of c.value_on-value.result)) (let z : c.loop-index.index + 1 - 1 ≡ c.loop-index.index = omega arith in z))
    (c.value_on-value.ensures ∙ ap (λ entries. dot g.F.Field.ops c.args.x.now (cochain_of (length c.args.x.now) entries)) c.right.ensures
    ∙ sym (value_source g.F.Field.ops (length c.args.x.now) c.args.x.now c.args.lines.now c.loop-index.index c.index-lines-index.result (omega (arith, c.loop-index-test.true, c.in_ok-count.ensures)) c.index-lines-index.is))

pub returns : goal.returns
returns g c =
    copied c.in_ok-count.count c.loop-index.index (values_on g.F.Field.ops (length c.args.x.now) c.args.lines.now c.args.x.now) c.loop-index.values c.loop-index.invariant (omega (arith, c.loop-index-test.false))
    (length-map (right_sides c.args.lines.now) (λ right. dot g.F.Field.ops c.args.x.now (cochain_of (length c.args.x.now) right)) ∙ length-map c.args.lines.now (λ line. line.right) ∙ sym c.in_ok-count.ensures)
