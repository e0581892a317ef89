use Rattle.std.proofs.Common.{◌*◌, ◌≤◌, get_or, ◌∙◌, arith}
use Rattle.std.proofs.Math.Nat.{mul-le-mul}
use Rattle.lane_rows.proofs.CallerLemmas.{map-agree}
use Rattle.small_field.specs.Quadratic.{mul_sums}
use Rattle.small_field.proofs.quadratic.scale.Goals as goal

pub replace-requires : goal.replace-requires
replace-requires g c =
    let square : g.row.P * g.row.P ≤ 3 * 3 = mul-le-mul c.requires.small c.requires.small in
    record { target = λ i d lt. omega (arith, c.requires.target i d lt) }

pub returns : goal.returns
returns g c =
    let P = g.row.P in
    let square : P * P ≤ 3 * 3 = mul-le-mul c.requires.small c.requires.small in
    c.replace.ensures
    ∙ map-agree (λ x. get_or c.products.result x 0) (λ x. mul_sums P g.row.C g.row.D c.args.factor x) (P * P) c.args.target.now c.requires.target
    (λ x lt. c.products.ensures.products x (omega arith))
