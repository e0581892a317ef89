use Rattle.std.proofs.Common.{◌≡◌, ℕ, suc, ◌+◌, false, drop, length, ap, sym, ◌∙◌, arith}
use Rattle.std.proofs.lemmas.List.{take_all, drop_all}
use Rattle.local_field.proofs.StepParts.{cut-here, cut-none}
use Rattle.local_field.proofs.rounds.place_of.Goals as goal

pub returns-then-steps-index-clause-before : goal.returns-then-steps-index-clause-before
returns-then-steps-index-clause-before c = (cut-here c.args.edge c.args.steps.now (record { edge = 0; forward = false }) c.loop-index.index c.loop-index.invariant c.loop-index-test.true c.if-steps-index.true).0

pub returns-then-steps-index-clause-after : goal.returns-then-steps-index-clause-after
returns-then-steps-index-clause-after c =
    let e : suc c.loop-index.index ≡ c.loop-index.index + 1 = omega arith in
    (cut-here c.args.edge c.args.steps.now (record { edge = 0; forward = false }) c.loop-index.index c.loop-index.invariant c.loop-index-test.true c.if-steps-index.true).1 ∙ ap (λ (k : ℕ). drop k c.args.steps.now) e

pub returns-clause-before : goal.returns-clause-before
returns-clause-before c =
    (cut-none c.args.edge c.args.steps.now (record { edge = 0; forward = false }) (λ k m. c.loop-index.invariant k (omega (arith, m, c.loop-index-test.false)))).0
    ∙ sym (take_all (length c.args.steps.now) c.args.steps.now (omega arith))

pub returns-clause-after : goal.returns-clause-after
returns-clause-after c =
    (cut-none c.args.edge c.args.steps.now (record { edge = 0; forward = false }) (λ k m. c.loop-index.invariant k (omega (arith, m, c.loop-index-test.false)))).1
    ∙ sym (drop_all (length c.args.steps.now + 1) c.args.steps.now (omega arith))
