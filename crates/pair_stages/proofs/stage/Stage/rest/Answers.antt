use Rattle.std.proofs.Common.{◌≡◌, ◌<◌, ℕ, List, length, length-set, refl, ap, sym, ◌∙◌, subst, arith}
use Rattle.std.proofs.lemmas.Grind.{same_number_lists}
use Rattle.split_laws.specs.Kinds.{criticals, part}
use Rattle.split_laws.specs.Solutions.{without}
use Rattle.pair_stages.proofs.Filling.{rest_value, entries_more, rest_long}
use Rattle.pair_stages.proofs.stage.Stage.rest.Goals as goal

pub loop-index-preserved : goal.loop-index-preserved
loop-index-preserved g c =
    let F = g.F.Field.ops in
    let m : ℕ = length c.args.next.now.kinds in
    let lt : c.loop-index.index < criticals c.args.next.now.kinds = subst (λ (n : ℕ). c.loop-index.index < n) c.criticals-count.ensures c.loop-index-test.true in
    record {
      long = ap (λ (xs : List ℕ). length xs) c.set.ensures ∙ (length-set c.loop-index.w c.loop-index.index (g.F.Field.number_of c.add-value.result) ∙ c.loop-index.invariant.long);
      same = entries_more (part c.args.next.now.kinds (without F m c.args.self.now.rows c.args.x.now c.args.y.now)) c.loop-index.w c.set.new.self c.loop-index.index (g.F.Field.number_of c.add-value.result)
          (subst (λ (n : ℕ). c.loop-index.index < n) (sym c.loop-index.invariant.long) c.loop-index-test.true) c.loop-index.invariant.same
          (rest_value F g.met.F.Field.laws m c.args.self.now.rows c.args.next.now.kinds c.args.x.now c.args.y.now c.loop-index.index c.critical_place-place.result (g.F.Field.number_of c.add-value.result) (g.F.Field.number_of c.get.result) (g.F.Field.number_of c.neg.result) (g.F.Field.number_of c.coboundary_at.result)
          c.requires.paired.matching.matrix refl c.requires.cochain lt c.critical_place-place.ensures.place c.add-value.ensures c.get.ensures c.neg.ensures c.coboundary_at.ensures)
          c.set.ensures;
    }

pub returns : goal.returns
returns g c =
    let F = g.F.Field.ops in
    let m : ℕ = length c.args.next.now.kinds in
    same_number_lists c.loop-index.w (part c.args.next.now.kinds (without F m c.args.self.now.rows c.args.x.now c.args.y.now))
    (c.loop-index.invariant.long ∙ (c.criticals-count.ensures ∙ sym (rest_long F g.met.F.Field.laws m c.args.self.now.rows c.args.next.now.kinds c.args.x.now c.args.y.now c.requires.paired.matching.matrix refl c.requires.cochain)))
    (λ i li. c.loop-index.invariant.same i (let l : length c.loop-index.w ≡ c.criticals-count.result = c.loop-index.invariant.long in omega arith))
