use Rattle.std.proofs.Common.{◌≡◌, ◌-◌, ◌+◌, ◌<◌, ◌≤◌, ℕ, List, [], length, replicate, get_or, sym, ◌∙◌, subst, arith}
use Rattle.std.proofs.lemmas.Bool.{false≢true}
use Rattle.std.proofs.lemmas.Simd.{length-replicate, get_or-replicate}
use Rattle.small_field.specs.Field.{Ops}
use Rattle.linear_laws.specs.Vectors.{dot, column, combination}
use Rattle.split_laws.specs.Kinds.{criticals, part}
use Rattle.pair_stages.specs.Reaches.{HasColumns}
use Rattle.pair_stages.proofs.Rows.{IsMixed, mixed_begun, mixed_more, mixed_off, put_done, value_at, some_value, zeros_kept, told}
use Rattle.pair_stages.proofs.coboundary.put_coboundary.Goals as goal
use Rattle.pair_stages.proofs.coboundary.put_coboundary.Goals.{then-put_value, else-put_value}

pub loop-index-init : goal.loop-index-init
loop-index-init g c =
    let n : ℕ = criticals c.args.next.now.kinds in
    let wanted : List ℕ = part c.args.next.now.kinds (combination g.F.Field.ops (length c.args.next.now.kinds) c.args.x.now c.args.stage.now.rows) in
    record {
      mixed = subst (λ (v : List ℕ). IsMixed c.args.next.now.kinds (replicate n 0) wanted v []) (sym c.requires.zeros) (mixed_begun c.args.next.now.kinds (replicate n 0) wanted (length-replicate n 0));
      some = λ e. absurd (false≢true e);
      none = λ e. c.requires.zeros;
    }

pub loop-index-preserved : goal.loop-index-preserved
loop-index-preserved g c =
    let F : Ops = g.F.Field.ops in
    let L = g.met.F.Field.laws in
    let n : ℕ = criticals c.args.next.now.kinds in
    let wanted : List ℕ = part c.args.next.now.kinds (combination F (length c.args.next.now.kinds) c.args.x.now c.args.stage.now.rows) in
    let xs : List ℕ = c.deref-indexes.result.now in
    let found : List ℕ = c.args.reach.now.found.found in
    let low : 1 ≤ c.get-place.result = c.get-place.ensures.first in
    let p : ℕ = c.get-place.result - 1 in
    let at : get_or found c.loop-index.index 0 ≡ p + 1 = sym c.get-place.ensures.number ∙ (let z : c.get-place.result ≡ c.get-place.result - 1 + 1 = omega arith in z) in
    let inside : p < length c.args.next.now.kinds = omega (arith, c.get-place.ensures.last, c.requires.most) in
    let columns : HasColumns c.args.next.now.kinds xs = subst (HasColumns c.args.next.now.kinds) (sym c.deref-indexes.ensures.value) c.requires.indexes.critical in
    let v : ℕ = dot F c.args.x.now (column p c.args.stage.now.rows) in
    record {
      mixed = mixed_more c.args.next.now.kinds (replicate n 0) wanted c.loop-index.values c.put_value.new.values xs found columns c.loop-index.index p v (omega (arith, c.loop-index-test.true, c.len-index-end.ensures.len)) at inside c.loop-index.invariant.mixed
          (λ k. let a = columns p inside k in value_at F L c.args.stage.now c.args.next.now c.requires.paired c.args.x.now p (get_or xs p 0) a.0 a.1) c.put_value.ensures.critical c.put_value.ensures.other;
      some =
          elim c.if-put_value.branch [
            | then-put_value w ↦ λ e. let told = c.put_value.ensures.some w.if-put_value.true in let a = columns p inside told.0 in some_value F L c.args.stage.now c.args.next.now c.requires.paired c.args.x.now p (get_or xs p 0) a.0 a.1 told.1
            | else-put_value w ↦ λ e. c.loop-index.invariant.some (sym w.some-is ∙ e)
          ];
      none =
          elim c.if-put_value.branch [
            | then-put_value w ↦ λ e. absurd (false≢true (sym e ∙ w.some-is))
            | else-put_value w ↦ λ e. zeros_kept c.args.next.now.kinds n p (get_or xs p 0) v c.loop-index.values c.put_value.new.values (c.loop-index.invariant.none (sym w.some-is ∙ e)) c.put_value.ensures.critical c.put_value.ensures.other (c.put_value.ensures.none w.if-put_value.false)
          ];
    }

pub returns-clause-values : goal.returns-clause-values
returns-clause-values g c =
    put_done g.F.Field.ops g.met.F.Field.laws c.args.stage.now c.args.next.now c.requires.paired c.args.x.now c.loop-index.values c.args.reach.now.found.found c.loop-index.index
    (omega (arith, c.loop-index-test.false, c.len-index-end.ensures.len)) c.requires.found c.loop-index.invariant.mixed

pub returns-clause-some : goal.returns-clause-some
returns-clause-some g c =
    told (criticals c.args.next.now.kinds) c.loop-index.some c.loop-index.values (part c.args.next.now.kinds (combination g.F.Field.ops (length c.args.next.now.kinds) c.args.x.now c.args.stage.now.rows))
    (put_done g.F.Field.ops g.met.F.Field.laws c.args.stage.now c.args.next.now c.requires.paired c.args.x.now c.loop-index.values c.args.reach.now.found.found c.loop-index.index
    (omega (arith, c.loop-index-test.false, c.len-index-end.ensures.len)) c.requires.found c.loop-index.invariant.mixed) c.loop-index.invariant.some c.loop-index.invariant.none

pub returns-clause-off : goal.returns-clause-off
returns-clause-off g c =
    let n : ℕ = criticals c.args.next.now.kinds in
    mixed_off c.args.next.now.kinds (replicate n 0) (part c.args.next.now.kinds (combination g.F.Field.ops (length c.args.next.now.kinds) c.args.x.now c.args.stage.now.rows)) c.loop-index.values c.args.reach.now.found.found c.loop-index.index
    (omega (arith, c.loop-index-test.false, c.len-index-end.ensures.len)) (λ j lj. get_or-replicate n j 0 0 lj) c.loop-index.invariant.mixed
