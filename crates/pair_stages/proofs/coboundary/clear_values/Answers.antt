use Rattle.std.proofs.Common.{◌≡◌, ◌-◌, ◌+◌, ◌<◌, ◌≤◌, ℕ, List, length, replicate, get_or, sym, ◌∙◌, subst, arith}
use Rattle.std.proofs.lemmas.Simd.{length-replicate, get_or-replicate}
use Rattle.split_laws.specs.Kinds.{criticals}
use Rattle.pair_stages.specs.Reaches.{HasColumns}
use Rattle.pair_stages.proofs.Rows.{mixed_begun, mixed_more, mixed_done}
use Rattle.pair_stages.proofs.coboundary.clear_values.Goals as goal

pub loop-index-init : goal.loop-index-init
loop-index-init g c = mixed_begun c.args.next.now.kinds c.args.values.now (replicate (criticals c.args.next.now.kinds) 0) c.requires.values

pub loop-index-preserved : goal.loop-index-preserved
loop-index-preserved g c =
    let n : ℕ = criticals c.args.next.now.kinds in
    let xs : List ℕ = c.deref-indexes.result.now in
    let found : List ℕ = c.args.reach.now.found.found in
    let low : 1 ≤ c.get-place.result = c.get-place.ensures.first in
    let p : ℕ = c.get-place.result - 1 in
    let at : get_or found c.loop-index.index 0 ≡ p + 1 = sym c.get-place.ensures.number ∙ (let z : c.get-place.result ≡ c.get-place.result - 1 + 1 = omega arith in z) in
    let inside : p < length c.args.next.now.kinds = omega (arith, c.get-place.ensures.last, c.requires.most) in
    let columns : HasColumns c.args.next.now.kinds xs = subst (HasColumns c.args.next.now.kinds) (sym c.deref-indexes.ensures.value) c.requires.columns in
    mixed_more c.args.next.now.kinds c.args.values.now (replicate n 0) c.loop-index.values c.clear_value.new.values xs found columns c.loop-index.index p 0 (omega (arith, c.loop-index-test.true, c.len-index-end.ensures.len)) at inside c.loop-index.invariant
    (λ k. sym (get_or-replicate n (get_or xs p 0) 0 0 (columns p inside k).0)) c.clear_value.ensures.critical c.clear_value.ensures.other

pub returns : goal.returns
returns g c =
    let n : ℕ = criticals c.args.next.now.kinds in
    mixed_done c.args.next.now.kinds c.args.values.now (replicate n 0) c.loop-index.values c.args.reach.now.found.found c.loop-index.index (omega (arith, c.loop-index-test.false, c.len-index-end.ensures.len)) (length-replicate n 0)
    (λ j lj m. c.requires.off j lj m ∙ sym (get_or-replicate n j 0 0 lj)) c.loop-index.invariant
