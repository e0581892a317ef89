use Rattle.std.proofs.Common.{◌≡◌, ◌+◌, ◌<◌, ◌≤◌, length, get_or, ap, ◌∙◌, arith}
use Rattle.pair_stages.specs.Stages.{Stage, critical_from, place_of}
use Rattle.pair_stages.proofs.Placed.{index_in, number_is, number_low, place_below}
use Rattle.pair_stages.proofs.stage.Stage.critical_place.Goals as goal

pub bounds-critical-index : goal.bounds-critical-index
bounds-critical-index g c = index_in c.args.self.now.kinds c.deref-critical.result.now c.args.index (c.deref-critical.ensures.value ∙ c.self.invariant.0 ∙ ap (λ (s : Stage). critical_from 1 s.kinds) c.self.view_is) c.requires

pub overflow_sub-result : goal.overflow_sub-result
overflow_sub-result g c = number_low c.args.self.now.kinds c.deref-critical.result.now c.args.index 0 (c.deref-critical.ensures.value ∙ c.self.invariant.0 ∙ ap (λ (s : Stage). critical_from 1 s.kinds) c.self.view_is) c.requires

pub returns-clause-place : goal.returns-clause-place
returns-clause-place g c =
    let h : get_or c.deref-critical.result.now c.args.index 0 ≡ 1 + place_of c.args.self.now.kinds c.args.index = number_is c.args.self.now.kinds c.deref-critical.result.now c.args.index 0 (c.deref-critical.ensures.value ∙ c.self.invariant.0 ∙ ap (λ (s : Stage). critical_from 1 s.kinds) c.self.view_is) c.requires in
    omega arith

pub returns-clause-within : goal.returns-clause-within
returns-clause-within g c =
    let h : get_or c.deref-critical.result.now c.args.index 0 ≡ 1 + place_of c.args.self.now.kinds c.args.index = number_is c.args.self.now.kinds c.deref-critical.result.now c.args.index 0 (c.deref-critical.ensures.value ∙ c.self.invariant.0 ∙ ap (λ (s : Stage). critical_from 1 s.kinds) c.self.view_is) c.requires in
    let b : place_of c.args.self.now.kinds c.args.index < length c.args.self.now.kinds = place_below c.args.self.now.kinds c.args.index c.requires in
    omega arith

pub returns-clause-few : goal.returns-clause-few
returns-clause-few g c =
    let h : get_or c.deref-critical.result.now c.args.index 0 ≡ 1 + place_of c.args.self.now.kinds c.args.index = number_is c.args.self.now.kinds c.deref-critical.result.now c.args.index 0 (c.deref-critical.ensures.value ∙ c.self.invariant.0 ∙ ap (λ (s : Stage). critical_from 1 s.kinds) c.self.view_is) c.requires in
    let b : place_of c.args.self.now.kinds c.args.index < length c.args.self.now.kinds = place_below c.args.self.now.kinds c.args.index c.requires in
    let l : length c.self.inside.kinds.items ≤ 4294967295 = c.self.invariant.1.cells in
    let e : length c.self.inside.kinds.items ≡ length c.args.self.now.kinds = ap (λ (s : Stage). length s.kinds) c.self.view_is in
    omega arith
