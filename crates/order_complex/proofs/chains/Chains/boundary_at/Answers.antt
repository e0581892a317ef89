use Rattle.std.proofs.Common.{◌≡◌, ◌≤◌, ◌<◌, ◌-◌, ℕ, List, Contains, length, get_or, ap, ◌∙◌, subst, arith}
use Rattle.std.proofs.lemmas.List.{take_all, get_or_default}
use Rattle.face_poset.specs.Poset.{facets_of, cofaces_of}
use Rattle.order_complex.specs.Chains.{chains_of}
use Rattle.order_complex.specs.Complex.{complex_of, negative_in}
use Rattle.order_complex.proofs.Cofaces.{signed_sum, one_coface_more, count-chains, coface-at, boundary-at}
use Rattle.order_complex.proofs.chains.Chains.boundary_at.Goals as goal

pub cofaces-coface-items-requires-clause-last : goal.cofaces-coface-items-requires-clause-last
cofaces-coface-items-requires-clause-last g c = omega (arith, c.requires.last, count-chains c.args.self.now (c.args.degree - 1) (omega (arith, c.requires.high)))

-- what is known of a coface
coface : (space : List (List (List ℕ))) (ns : List ℕ) (degree number i : ℕ) → 1 ≤ degree → degree ≤ 3 → ns ≡ cofaces_of (complex_of space) (degree - 1) number → i < length ns
    → (1 ≤ get_or ns i 0) × (get_or ns i 0 ≤ length (chains_of space degree)) × Contains (facets_of (complex_of space) degree (get_or ns i 0)) number
coface space ns degree number i low high e l =
    coface-at space degree number i (get_or ns i 0) low high (subst (λ (fs : List ℕ). i < length fs) e l) (ap (λ (fs : List ℕ). get_or fs i 0) e)

pub signed_at-requires-clause-first : goal.signed_at-requires-clause-first
signed_at-requires-clause-first g c =
    (coface c.args.self.now c.cofaces-coface-items.result.now c.args.degree c.args.chain c.loop-coface.coface-index c.requires.low c.requires.high c.cofaces-coface-items.ensures.cofaces c.loop-coface-test.true).0

pub signed_at-requires-clause-last : goal.signed_at-requires-clause-last
signed_at-requires-clause-last g c =
    (coface c.args.self.now c.cofaces-coface-items.result.now c.args.degree c.args.chain c.loop-coface.coface-index c.requires.low c.requires.high c.cofaces-coface-items.ensures.cofaces c.loop-coface-test.true).1

pub signed_at-requires-clause-facet : goal.signed_at-requires-clause-facet
signed_at-requires-clause-facet g c =
    (coface c.args.self.now c.cofaces-coface-items.result.now c.args.degree c.args.chain c.loop-coface.coface-index c.requires.low c.requires.high c.cofaces-coface-items.ensures.cofaces c.loop-coface-test.true).2

pub loop-coface-preserved : goal.loop-coface-preserved
loop-coface-preserved g c =
    one_coface_more g.F.Field.ops g.met.F.Field.laws (λ n. negative_in c.args.self.now c.args.degree n c.args.chain) (λ n. get_or c.args.c.now (n - 1) 0) c.cofaces-coface-items.result.now c.loop-coface.coface-index
    (get_or c.cofaces-coface-items.result.now c.loop-coface.coface-index 0) (g.F.Field.number_of c.loop-coface.total) (g.F.Field.number_of c.signed_at.result) (g.F.Field.number_of c.add-total.result)
    c.loop-coface-test.true (get_or_default c.cofaces-coface-items.result.now c.loop-coface.coface-index 0 _ c.loop-coface-test.true) c.loop-coface.invariant c.signed_at.ensures c.add-total.ensures

pub returns : goal.returns
returns g c =
    c.loop-coface.invariant
    ∙ ap (signed_sum g.F.Field.ops (λ n. negative_in c.args.self.now c.args.degree n c.args.chain) (λ n. get_or c.args.c.now (n - 1) 0))
    (take_all c.loop-coface.coface-index c.cofaces-coface-items.result.now c.loop-coface-test.false ∙ c.cofaces-coface-items.ensures.cofaces)
    ∙ boundary-at c.args.self.now g.F.Field.ops g.met.F.Field.laws c.args.degree c.args.chain c.args.c.now c.requires.low c.requires.high c.requires.first c.requires.last c.requires.coefficients c.len-coefficients.ensures.elements
