use Rattle.std.proofs.Common.{◌<◌, ◌-◌, get_or, ap, sym, ◌∙◌, subst, arith}
use Rattle.std.proofs.Math.ListN.{drop_of_length-le}
use Rattle.small_field.proofs.CallerLemmas.{add_zero, zero_below}
use Rattle.cohomology.proofs.Entered.{product_more, products, products_below, value_is}
use Rattle.cohomology.proofs.entries.value_on.Goals as goal

pub loop-index-init : goal.loop-index-init
loop-index-init g c = record {
  below = subst (λ k. k < g.F.Field.ops.size) (sym c.zero-sum.ensures) (zero_below g.F.Field.ops g.met.F.Field.laws);
  is =
      ap (λ k. g.F.Field.ops.add k (products g.F.Field.ops g.met.F.Field.laws c.args.x.now c.args.entries.now)) c.zero-sum.ensures
      ∙ g.met.F.Field.laws.zero_add (products g.F.Field.ops g.met.F.Field.laws c.args.x.now c.args.entries.now) (products_below g.F.Field.ops g.met.F.Field.laws c.args.x.now c.args.entries.now);
}

pub loop-index-preserved : goal.loop-index-preserved
loop-index-preserved g c = record {
  below = subst (λ k. k < g.F.Field.ops.size) (sym c.add-sum.ensures) (g.met.F.Field.laws.add_below (g.F.Field.number_of c.loop-index.sum) (g.F.Field.number_of c.mul.result));
  is =
      product_more g.F.Field.ops g.met.F.Field.laws c.args.x.now c.args.entries.now (products g.F.Field.ops g.met.F.Field.laws c.args.x.now c.args.entries.now) (g.F.Field.number_of c.loop-index.sum) (g.F.Field.number_of c.add-sum.result)
      (g.F.Field.number_of c.mul.result) c.loop-index.index (c.get-entry.result.position, c.get-entry.result.value) (omega (arith, c.loop-index-test.true, c.len-index-end.ensures.len)) c.get-entry.ensures c.loop-index.invariant.is
      (c.mul.ensures ∙ ap (λ k. g.F.Field.ops.mul k (g.F.Field.number_of c.from_number-value.result)) c.get.ensures
      ∙ ap (g.F.Field.ops.mul (get_or c.args.x.now (c.get-entry.result.position - 1) 0)) c.from_number-value.ensures)
      c.add-sum.ensures;
}

pub returns : goal.returns
returns g c =
    sym (add_zero g.F.Field.ops g.met.F.Field.laws (g.F.Field.number_of c.loop-index.sum) c.loop-index.invariant.below)
    ∙ ap (λ es. g.F.Field.ops.add (g.F.Field.number_of c.loop-index.sum) (products g.F.Field.ops g.met.F.Field.laws c.args.x.now es))
    (sym (drop_of_length-le c.args.entries.now (omega (arith, c.loop-index-test.false, c.len-index-end.ensures.len))))
    ∙ c.loop-index.invariant.is
    ∙ value_is g.F.Field.ops g.met.F.Field.laws c.args.x.now c.args.entries.now c.requires
