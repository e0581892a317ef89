use Rattle.std.proofs.Common.{◌-◌, ◌<◌, ℕ, List, [], length, get_or, sym, subst, arith}
use Rattle.order_complex.specs.Chains.{chains_of}
use Rattle.order_complex.proofs.Fronts.{front-init, front-step, front-last}
use Rattle.order_complex.proofs.chains.Chains.front.Goals as goal

pub loop-step-init : goal.loop-step-init
loop-step-init c = front-init c.args.self.now c.args.degree c.args.chain (c.args.degree - 0) c.requires.first c.requires.last (omega arith)

pub facets-requires-clause-last : goal.facets-requires-clause-last
facets-requires-clause-last c =
    (front-step c.args.self.now c.args.degree c.loop-step.step c.loop-step.number (get_or (chains_of c.args.self.now c.args.degree) (c.args.chain - 1) []) c.requires.degree (omega arith) c.loop-step.invariant).within

pub bounds-facets-0 : goal.bounds-facets-0
bounds-facets-0 c =
    let s = front-step c.args.self.now c.args.degree c.loop-step.step c.loop-step.number (get_or (chains_of c.args.self.now c.args.degree) (c.args.chain - 1) []) c.requires.degree (omega arith) c.loop-step.invariant in
    subst (λ (fs : List ℕ). 0 < length fs) (sym c.facets.ensures.facets) s.some

pub loop-step-preserved : goal.loop-step-preserved
loop-step-preserved c =
    (front-step c.args.self.now c.args.degree c.loop-step.step c.loop-step.number (get_or (chains_of c.args.self.now c.args.degree) (c.args.chain - 1) []) c.requires.degree (omega arith) c.loop-step.invariant).next c.facets.result.now c.facets.ensures.facets

pub returns : goal.returns
returns c = front-last c.args.self.now c.args.degree c.loop-step.step c.args.less c.loop-step.number (get_or (chains_of c.args.self.now c.args.degree) (c.args.chain - 1) []) (omega arith) c.loop-step.invariant
