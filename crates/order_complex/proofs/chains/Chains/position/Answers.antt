use Rattle.std.proofs.Common.{◌≡◌, ◌≤◌, ◌-◌, List, ℕ, [], length, get_or, refl, ap, sym, ◌∙◌, subst, rules}
use Rattle.std.proofs.lemmas.Bool.{le-leb}
use Rattle.order_complex.specs.Chains.{chains_of}
use Rattle.order_complex.specs.Order.{IsOrdered}
use Rattle.order_complex.specs.Complex.{number_in, position_of}
use Rattle.order_complex.proofs.Ordered.{ordered-chains_of}
use Rattle.order_complex.proofs.Numbers.{number-at, number-nowhere}
use Rattle.order_complex.proofs.Held.{held, chains-at}
use Rattle.order_complex.proofs.chains.Chains.position.Goals as goal

position-short : (space : List (List (List ℕ))) (ids : List ℕ) → 1 ≤ length ids → length ids ≤ 4 → position_of space ids ≡ number_in (chains_of space (length ids - 1)) ids
position-short space ids low high =
    rw (le-leb 1 (length ids) low, le-leb (length ids) 4 high) refl

pub find_chain-requires-clause-ordered : goal.find_chain-requires-clause-ordered
find_chain-requires-clause-ordered c =
    subst IsOrdered (sym (chains-at c.args.self.now c.self.inside.chains c.self.inside.facets c.self.inside.cofaces
    (held c.self.inside.space.now c.args.self.now c.self.inside.chains c.self.inside.facets c.self.inside.cofaces c.self.view_is c.self.invariant) (length c.args.ids.now - 1) (search rules))) (ordered-chains_of c.args.self.now (length c.args.ids.now - 1))

pub returns-in-Some : goal.returns-in-Some
returns-in-Some c =
    let list = chains-at c.args.self.now c.self.inside.chains c.self.inside.facets c.self.inside.cofaces
    (held c.self.inside.space.now c.args.self.now c.self.inside.chains c.self.inside.facets c.self.inside.cofaces c.self.view_is c.self.invariant) (length c.args.ids.now - 1) (search rules) in
    sym (position-short c.args.self.now c.args.ids.now (search rules) (search rules)
    ∙ ap (λ (xs : List (List ℕ)). number_in xs c.args.ids.now) (sym list)
    ∙ number-at (get_or c.self.inside.chains (length c.args.ids.now - 1) []) c.args.ids.now c.in-Some.place (subst IsOrdered (sym list) (ordered-chains_of c.args.self.now (length c.args.ids.now - 1))) c.in-Some.ensures.within c.in-Some.ensures.found)

pub returns-in-None : goal.returns-in-None
returns-in-None c =
    let list = chains-at c.args.self.now c.self.inside.chains c.self.inside.facets c.self.inside.cofaces
    (held c.self.inside.space.now c.args.self.now c.self.inside.chains c.self.inside.facets c.self.inside.cofaces c.self.view_is c.self.invariant) (length c.args.ids.now - 1) (search rules) in
    sym (position-short c.args.self.now c.args.ids.now (search rules) (search rules)
    ∙ ap (λ (xs : List (List ℕ)). number_in xs c.args.ids.now) (sym list)
    ∙ number-nowhere (get_or c.self.inside.chains (length c.args.ids.now - 1) []) c.args.ids.now (c.in-None.ensures.none refl))
