use Rattle.std.proofs.Common.{◌≡◌, ◌<◌, ℕ, List, length, get_or, length-set, ap, sym, ◌∙◌, subst, arith}
use Rattle.std.proofs.lemmas.Grind.{same_number_lists}
use Rattle.split_laws.specs.Kinds.{criticals, part}
use Rattle.split_laws.proofs.CallerLemmas.{part-long}
use Rattle.pair_stages.specs.Stages.{Stage, critical_from}
use Rattle.pair_stages.proofs.Placed.{index_in, number_is, number_low, number_high, part_step}
use Rattle.pair_stages.proofs.stage.Stage.part.Goals as goal

pub bounds-critical-index : goal.bounds-critical-index
bounds-critical-index g c =
    index_in c.args.self.now.kinds c.deref-critical.result.now c.loop-index.index (c.deref-critical.ensures.value ∙ c.self.invariant.0 ∙ ap (λ (s : Stage). critical_from 1 s.kinds) c.self.view_is)
    (subst (λ (n : ℕ). c.loop-index.index < n) c.criticals-count.ensures c.loop-index-test.true)

pub get-requires-clause-first : goal.get-requires-clause-first
get-requires-clause-first g c =
    (number_low c.args.self.now.kinds c.deref-critical.result.now c.loop-index.index 0 (c.deref-critical.ensures.value ∙ c.self.invariant.0 ∙ ap (λ (s : Stage). critical_from 1 s.kinds) c.self.view_is)
    (subst (λ (n : ℕ). c.loop-index.index < n) c.criticals-count.ensures c.loop-index-test.true))

pub get-requires-clause-last : goal.get-requires-clause-last
get-requires-clause-last g c =
    (number_high c.args.self.now.kinds c.deref-critical.result.now c.loop-index.index 0 (length c.args.x.now) (c.deref-critical.ensures.value ∙ c.self.invariant.0 ∙ ap (λ (s : Stage). critical_from 1 s.kinds) c.self.view_is)
    (subst (λ (n : ℕ). c.loop-index.index < n) c.criticals-count.ensures c.loop-index-test.true) c.requires)

pub loop-index-preserved : goal.loop-index-preserved
loop-index-preserved g c =
    let lt : c.loop-index.index < criticals c.args.self.now.kinds = subst (λ (n : ℕ). c.loop-index.index < n) c.criticals-count.ensures c.loop-index-test.true in
    record {
      long = ap (λ (xs : List ℕ). length xs) c.set.ensures ∙ (length-set c.loop-index.w c.loop-index.index (g.F.Field.number_of c.get.result) ∙ c.loop-index.invariant.long);
      same = part_step c.args.self.now.kinds c.args.x.now c.loop-index.w c.set.new.self c.loop-index.index (get_or c.deref-critical.result.now c.loop-index.index 0) (g.F.Field.number_of c.get.result) lt c.requires (c.loop-index.invariant.long ∙ c.criticals-count.ensures) c.loop-index.invariant.same
          (number_is c.args.self.now.kinds c.deref-critical.result.now c.loop-index.index 0 (c.deref-critical.ensures.value ∙ c.self.invariant.0 ∙ ap (λ (s : Stage). critical_from 1 s.kinds) c.self.view_is) lt) c.get.ensures c.set.ensures;
    }

pub returns : goal.returns
returns g c =
    same_number_lists c.loop-index.w (part c.args.self.now.kinds c.args.x.now) (c.loop-index.invariant.long ∙ (c.criticals-count.ensures ∙ sym (part-long c.args.self.now.kinds c.args.x.now c.requires)))
    (λ i lt. c.loop-index.invariant.same i (let l : length c.loop-index.w ≡ c.criticals-count.result = c.loop-index.invariant.long in omega arith))
