use Rattle.std.proofs.Common.{◌≤◌, ◌<◌, ◌-◌, ℕ, List, map, reverse, length, get_or, ap, sym, ◌∙◌, subst, arith}
use Rattle.std.proofs.lemmas.List.{take_all}
use Rattle.order_complex.specs.Chains.{chains_of}
use Rattle.order_complex.specs.Cochains.{alternating}
use Rattle.order_complex.proofs.Cancel.{complex-count}
use Rattle.order_complex.proofs.ValueLemmas.{coboundary-facets, facet-range}
use Rattle.order_complex.proofs.chains.Chains.coboundary_at.Goals as goal

pub facets-facet-items-requires-clause-last : goal.facets-facet-items-requires-clause-last
facets-facet-items-requires-clause-last g c = omega (arith, c.requires.last, complex-count c.args.self.now c.args.degree c.requires.degree)

pub get-requires-clause-first : goal.get-requires-clause-first
get-requires-clause-first g c =
    let e = c.facets-facet-items.ensures.facets in
    let r = facet-range g.F.Field.ops c.args.self.now c.args.degree c.args.chain c.loop-facet.facet-index c.requires.degree c.requires.first c.requires.last (subst (λ (fs : List ℕ). c.loop-facet.facet-index < length fs) e c.loop-facet-test.true) in
    subst (λ (fs : List ℕ). 1 ≤ get_or fs c.loop-facet.facet-index 0) (sym e) r.0

pub get-requires-clause-last : goal.get-requires-clause-last
get-requires-clause-last g c =
    let e = c.facets-facet-items.ensures.facets in
    let r = facet-range g.F.Field.ops c.args.self.now c.args.degree c.args.chain c.loop-facet.facet-index c.requires.degree c.requires.first c.requires.last (subst (λ (fs : List ℕ). c.loop-facet.facet-index < length fs) e c.loop-facet-test.true) in
    let high = subst (λ (fs : List ℕ). get_or fs c.loop-facet.facet-index 0 ≤ length (chains_of c.args.self.now c.args.degree)) (sym e) r.1 in
    omega (arith, high, c.requires.cochain)

pub returns : goal.returns
returns g c =
    c.loop-facet.invariant
    ∙ ap (λ (fs : List ℕ). alternating g.F.Field.ops (map (λ n. get_or c.args.x.now (n - 1) 0) (reverse fs))) (take_all c.loop-facet.facet-index c.facets-facet-items.result.now c.loop-facet-test.false ∙ c.facets-facet-items.ensures.facets)
    ∙ coboundary-facets g.F.Field.ops c.args.self.now c.args.degree c.args.chain c.args.x.now c.requires.degree c.requires.cochain c.requires.first c.requires.last
