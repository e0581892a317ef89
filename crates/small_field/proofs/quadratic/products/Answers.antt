use Rattle.std.proofs.Common.{◌<◌, ◌*◌, ◌≢◌, length, arith, get_or-set_other, get_or-set_same, below_more, length-set}
use Rattle.std.proofs.lemmas.List.Elements.{All-from_get_or}
use Rattle.small_field.proofs.quadratic.products.Goals as goal

pub loop-i-preserved : goal.loop-i-preserved
loop-i-preserved g c = record {
  long = simp length-set (c.loop-i.invariant.long);
  done =
      below_more _ _
      (λ k h. let ne : k ≢ c.loop-i.i = omega arith in rw get_or-set_other (c.loop-i.invariant.done k h))
      (let lt : c.loop-i.i < length c.loop-i.products = omega arith in rw get_or-set_same c.mul_sums.ensures.product);
  below =
      below_more _ _
      (λ k h. let ne : k ≢ c.loop-i.i = omega arith in rw get_or-set_other (c.loop-i.invariant.below k h))
      (let lt : c.loop-i.i < length c.loop-i.products = omega arith in rw get_or-set_same c.mul_sums.ensures.below);
}

pub returns-clause-products : goal.returns-clause-products
returns-clause-products g c = λ k lt. c.loop-i.invariant.done k (omega arith)

pub returns-clause-below : goal.returns-clause-below
returns-clause-below g c = All-from_get_or (λ x. x < g.row.P * g.row.P) c.loop-i.products 0 (λ k lt. c.loop-i.invariant.below k (omega (arith, c.loop-i.invariant.long)))
