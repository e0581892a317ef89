use Rattle.std.proofs.Common.{◌-◌, ◌≤◌, ℕ, List, [], length, get_or, refl, sym, subst, arith}
use Rattle.order_complex.specs.Chains.{chains_of}
use Rattle.order_complex.proofs.Fronts.{back-step}
use Rattle.order_complex.proofs.chains.Chains.back.Goals as goal

pub facets-facets-requires-clause-last : goal.facets-facets-requires-clause-last
facets-facets-requires-clause-last c = (back-step c.args.self.now c.args.degree c.loop-step.step c.loop-step.number (get_or (chains_of c.args.self.now c.args.degree) (c.args.chain - 1) []) c.requires.degree (omega arith) c.loop-step.invariant).within

pub overflow_sub-number : goal.overflow_sub-number
overflow_sub-number c =
    let s = back-step c.args.self.now c.args.degree c.loop-step.step c.loop-step.number (get_or (chains_of c.args.self.now c.args.degree) (c.args.chain - 1) []) c.requires.degree (omega arith) c.loop-step.invariant in
    subst (λ (fs : List ℕ). 1 ≤ length fs) (sym c.facets-facets.ensures.facets) s.some

pub bounds-facets-facets : goal.bounds-facets-facets
bounds-facets-facets c =
    let s = back-step c.args.self.now c.args.degree c.loop-step.step c.loop-step.number (get_or (chains_of c.args.self.now c.args.degree) (c.args.chain - 1) []) c.requires.degree (omega arith) c.loop-step.invariant in
    let some : 1 ≤ length c.facets-facets.result.now = subst (λ (fs : List ℕ). 1 ≤ length fs) (sym c.facets-facets.ensures.facets) s.some in
    omega arith

pub loop-step-preserved : goal.loop-step-preserved
loop-step-preserved c =
    (back-step c.args.self.now c.args.degree c.loop-step.step c.loop-step.number (get_or (chains_of c.args.self.now c.args.degree) (c.args.chain - 1) []) c.requires.degree (omega arith) c.loop-step.invariant).next c.facets-facets.result.now (get_or c.facets-facets.result.now (length c.facets-facets.result.now - 1) 0) c.facets-facets.ensures.facets refl
