use Rattle.std.proofs.Common.{◌<◌, ◌≢◌, length, arith, sym, ◌∙◌, get_or-set_other, get_or-set_same, below_more, length-set}
use Rattle.std.proofs.lemmas.Grind.{same_number_lists}
use Rattle.lane_rows.specs.Lanes.{multiples_of}
use Rattle.lane_rows.proofs.Steps.{multiple_at}
use Rattle.lane_rows.proofs.table.multiples_by.Goals as goal

pub loop-i-preserved : goal.loop-i-preserved
loop-i-preserved c = record {
  long = simp length-set (c.loop-i.invariant.long);
  done =
      below_more _ _
      (λ k h. let ne : k ≢ c.loop-i.i = omega arith in rw get_or-set_other (c.loop-i.invariant.done k h))
      (let lt : c.loop-i.i < length c.loop-i.products = omega arith in rw get_or-set_same);
}

pub returns : goal.returns
returns c =
    same_number_lists c.loop-i.products (multiples_of c.args.p c.args.factor) c.loop-i.invariant.long
    (λ k h. let e : k < 16 = omega (arith, c.loop-i.invariant.long) in
    c.loop-i.invariant.done k (omega arith) ∙ sym (multiple_at c.args.p c.args.factor k e))
