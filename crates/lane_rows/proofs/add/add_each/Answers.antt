use Rattle.std.proofs.Common.{◌≡◌, ◌+◌, ◌*◌, ◌%◌, ◌<◌, length, arith, sym, ◌∙◌}
use Rattle.std.proofs.lemmas.Grind.{same_number_lists, common_steps}
use Rattle.std.proofs.lemmas.Simd.{get_or-zip2, length-zip2}
use Rattle.lane_rows.specs.Lanes.{added}
use Rattle.lane_rows.proofs.add.add_each.Goals as goal

pub returns : goal.returns
returns c =
    let long : length c.loop-i.target ≡ length (added c.args.p c.args.factor c.args.target.now c.args.source.now) = grind (arith, common_steps, length-zip2) in
    same_number_lists c.loop-i.target (added c.args.p c.args.factor c.args.target.now c.args.source.now) long
    (λ k h. let e : k < c.loop-i.i = omega arith in
    c.loop-i.invariant.done k e ∙ sym (get_or-zip2 (λ x y. (x + c.args.factor * y) % c.args.p) c.args.target.now c.args.source.now k 0 0 0 (omega arith) (omega arith)))
