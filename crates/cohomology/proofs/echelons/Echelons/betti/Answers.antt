use Rattle.std.proofs.Common.{◌≡◌, ℕ, sym, subst, arith}
use Rattle.order_complex.specs.Homology.{IsBetti}
use Rattle.cohomology.proofs.Ranked.{betti_is}
use Rattle.cohomology.proofs.echelons.Echelons.betti.Goals as goal

pub returns-in-0 : goal.returns-in-0
returns-in-0 g c levels space e rows =
    subst (λ (degree : ℕ). IsBetti g.F.Field.ops space degree c.args.self.now.numbers.zero) (sym c.in-0.is) (betti_is g.F.Field.ops g.met.F.Field.laws c.betti_by_reduced_ranks.ensures levels space c.args.self.now e rows 0 (omega arith))

pub returns-in-1 : goal.returns-in-1
returns-in-1 g c levels space e rows =
    subst (λ (degree : ℕ). IsBetti g.F.Field.ops space degree c.args.self.now.numbers.one) (sym c.in-1.is) (betti_is g.F.Field.ops g.met.F.Field.laws c.betti_by_reduced_ranks.ensures levels space c.args.self.now e rows 1 (omega arith))

pub returns-in-2 : goal.returns-in-2
returns-in-2 g c levels space e rows =
    subst (λ (degree : ℕ). IsBetti g.F.Field.ops space degree c.args.self.now.numbers.two) (sym c.in-2.is) (betti_is g.F.Field.ops g.met.F.Field.laws c.betti_by_reduced_ranks.ensures levels space c.args.self.now e rows 2 (omega arith))

pub returns-in_default : goal.returns-in_default
returns-in_default g c levels space e rows =
    let is : c.args.degree ≡ 3 = omega (arith, c.requires, c.in_default) in
    subst (λ (degree : ℕ). IsBetti g.F.Field.ops space degree c.args.self.now.numbers.three) (sym is) (betti_is g.F.Field.ops g.met.F.Field.laws c.betti_by_reduced_ranks.ensures levels space c.args.self.now e rows 3 (omega arith))
