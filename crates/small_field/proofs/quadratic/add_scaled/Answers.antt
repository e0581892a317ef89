use Rattle.std.proofs.Common.{◌*◌, ◌≤◌, get_or, ap, ◌∙◌, arith}
use Rattle.std.proofs.Math.Nat.{mul-le-mul}
use Rattle.lane_rows.specs.Lanes.{pair_sum}
use Rattle.lane_rows.proofs.CallerLemmas.{zip2-agree}
use Rattle.small_field.specs.Quadratic.{add_sums, mul_sums}
use Rattle.small_field.proofs.quadratic.add_scaled.Goals as goal

pub returns : goal.returns
returns g c =
    let P = g.row.P in
    let square : P * P ≤ 3 * 3 = mul-le-mul c.requires.small c.requires.small in
    c.add_pairs.ensures
    ∙ zip2-agree (λ x y. pair_sum P x (get_or c.products.result y 0)) (λ x y. add_sums P x (mul_sums P g.row.C g.row.D c.args.factor y)) (P * P) c.args.target.now c.args.source.now c.requires.source
    (λ x y lt. ap (λ v. pair_sum P x v) (c.products.ensures.products y (omega arith)))
