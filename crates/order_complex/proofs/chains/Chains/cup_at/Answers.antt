use Rattle.std.proofs.Common.{◌≡◌, ◌+◌, ◌-◌, ℕ, suc, List, [], take, drop, length, get_or, ap, ◌∙◌, subst, arith}
use Rattle.small_field.specs.Field.{Ops}
use Rattle.order_complex.specs.Chains.{chains_of}
use Rattle.order_complex.specs.Cochains.{value}
use Rattle.order_complex.specs.Complex.{IsNumbered}
use Rattle.order_complex.specs.Cup.{cup_at as cup_value}
use Rattle.order_complex.proofs.Fronts.{value-numbered}
use Rattle.order_complex.proofs.chains.Chains.cup_at.Goals as goal

-- the values at the front and at the back
product : (F : Ops) (space : List (List (List ℕ))) (i j front back : ℕ) (x y c : List ℕ) → length x ≡ length (chains_of space i) → length y ≡ length (chains_of space j)
    → IsNumbered space (i + j - j) front (take (i + j - j + 1) c) → IsNumbered space (i + j - i) back (drop i c)
    → cup_value F i (chains_of space i) x (chains_of space j) y c ≡ F.mul (get_or x (front - 1) 0) (get_or y (back - 1) 0)
product F space i j front back x y c lx ly h k =
    let fi : i + j - j ≡ i = omega arith in
    let bj : i + j - i ≡ j = omega arith in
    let more : i + j - j + 1 ≡ suc i = omega arith in
    let f : IsNumbered space i front (take (suc i) c) = subst (λ d. IsNumbered space d front (take (suc i) c)) fi (subst (λ n. IsNumbered space (i + j - j) front (take n c)) more h) in
    let b : IsNumbered space j back (drop i c) = subst (λ d. IsNumbered space d back (drop i c)) bj k in
    ap (λ n. F.mul n (value (chains_of space j) y (drop i c))) (value-numbered space i front (take (suc i) c) x lx f)
    ∙ ap (F.mul (get_or x (front - 1) 0)) (value-numbered space j back (drop i c) y ly b)

pub get-requires-clause-last : goal.get-requires-clause-last
get-requires-clause-last g c =
    let e : c.args.i + c.args.j - c.args.j ≡ c.args.i = omega arith in
    omega (arith, c.front-front.ensures.high, c.requires.left, ap (λ d. length (chains_of c.args.self.now d)) e)

pub get-requires-2-clause-last : goal.get-requires-2-clause-last
get-requires-2-clause-last g c =
    let e : c.args.i + c.args.j - c.args.i ≡ c.args.j = omega arith in
    omega (arith, c.back-back.ensures.high, c.requires.right, ap (λ d. length (chains_of c.args.self.now d)) e)

pub returns : goal.returns
returns g c =
    let v = product g.F.Field.ops c.args.self.now c.args.i c.args.j c.front-front.result c.back-back.result c.args.x.now c.args.y.now (get_or (chains_of c.args.self.now (c.args.i + c.args.j)) (c.args.chain - 1) []) c.requires.left c.requires.right c.front-front.ensures c.back-back.ensures in
    cc
