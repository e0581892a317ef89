use Rattle.std.proofs.Common.{◌++◌, ◌+◌, ℕ, List, ap, sym, ◌∙◌, subst, arith}
use Rattle.regular_check.specs.Cycle.{AreCycles, cycle_along}
use Rattle.regular_check.proofs.Parts.{cycles_more}
use Rattle.regular_check.proofs.cycles.all_cycles.Goals as goal

pub loop-index-preserved : goal.loop-index-preserved
loop-index-preserved c = (
  subst (λ (es : List ℕ). AreCycles c.args.space.now (c.loop-index.index + 1) es c.push_cycle.new.steps.items) (sym c.in_ok-push-2.ensures.items)
      (cycles_more c.args.space.now c.loop-index.index c.loop-index.ends.items c.loop-index.steps.items c.push_cycle.new.steps.items c.len.result c.loop-index.invariant.0
      (c.in_ok-push_cycle.ensures ∙ ap (λ (es : List ℕ). c.loop-index.steps.items ++ cycle_along c.args.space.now es) c.facets-edges.ensures.facets)
      (omega (arith, c.len.ensures, c.push_cycle.new.steps.ok.0))),
  c.clear.ensures,
)
