use Rattle.std.proofs.Common.{◌≡◌, ◌<◌, ℕ, List, take, length, get_or, replicate, ap, sym, ◌∙◌, arith}
use Rattle.std.proofs.lemmas.List.{take_all}
use Rattle.split_laws.specs.Kinds.{criticals, spread}
use Rattle.split_laws.proofs.CallerLemmas.{spread_long}
use Rattle.pair_stages.specs.Stages.{Stage, critical_from}
use Rattle.pair_stages.proofs.Placed.{index_in, number_is, number_low, number_high, spread_step, spread_nothing}
use Rattle.pair_stages.proofs.stage.Stage.spread.Goals as goal

pub loop-index-init : goal.loop-index-init
loop-index-init g c = c.in_ok-x.ensures ∙ (ap (λ (n : ℕ). replicate n 0) c.len.ensures.len ∙ sym (spread_nothing c.args.self.now.kinds))

pub bounds-critical-index : goal.bounds-critical-index
bounds-critical-index g c =
    index_in c.args.self.now.kinds c.deref-critical.result.now c.loop-index.index (c.deref-critical.ensures.value ∙ c.self.invariant.0 ∙ ap (λ (s : Stage). critical_from 1 s.kinds) c.self.view_is)
    (let l : length c.args.w.now ≡ criticals c.args.self.now.kinds = c.requires in omega arith)

pub set-requires-clause-first : goal.set-requires-clause-first
set-requires-clause-first g c = number_low c.args.self.now.kinds c.deref-critical.result.now c.loop-index.index 0 (c.deref-critical.ensures.value ∙ c.self.invariant.0 ∙ ap (λ (s : Stage). critical_from 1 s.kinds) c.self.view_is) (let l : length c.args.w.now ≡ criticals c.args.self.now.kinds = c.requires in omega arith)

pub set-requires-clause-last : goal.set-requires-clause-last
set-requires-clause-last g c =
    number_high c.args.self.now.kinds c.deref-critical.result.now c.loop-index.index 0 (length c.loop-index.x) (c.deref-critical.ensures.value ∙ c.self.invariant.0 ∙ ap (λ (s : Stage). critical_from 1 s.kinds) c.self.view_is) (let l : length c.args.w.now ≡ criticals c.args.self.now.kinds = c.requires in omega arith)
    (ap (λ (xs : List ℕ). length xs) c.loop-index.invariant ∙ spread_long c.args.self.now.kinds (take c.loop-index.index c.args.w.now))

pub loop-index-preserved : goal.loop-index-preserved
loop-index-preserved g c =
    let lt : c.loop-index.index < length c.args.w.now = omega arith in
    spread_step c.args.self.now.kinds c.args.w.now c.loop-index.x c.set.new.self c.loop-index.index (get_or c.deref-critical.result.now c.loop-index.index 0) (g.F.Field.number_of c.get.result) lt c.requires c.loop-index.invariant
    (number_is c.args.self.now.kinds c.deref-critical.result.now c.loop-index.index 0 (c.deref-critical.ensures.value ∙ c.self.invariant.0 ∙ ap (λ (s : Stage). critical_from 1 s.kinds) c.self.view_is) (let l : length c.args.w.now ≡ criticals c.args.self.now.kinds = c.requires in omega arith)) c.set.ensures c.get.ensures

pub returns : goal.returns
returns g c = c.loop-index.invariant ∙ ap (spread c.args.self.now.kinds) (take_all c.loop-index.index c.args.w.now (omega arith))
