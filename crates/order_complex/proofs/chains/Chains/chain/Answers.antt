use Rattle.std.proofs.Common.{◌-◌, List, ℕ, [], length, get_or, ap, ◌∙◌, arith}
use Rattle.order_complex.proofs.Held.{held, chains-at}
use Rattle.order_complex.proofs.ValueLemmas.{chain-long}
use Rattle.order_complex.proofs.chains.Chains.chain.Goals as goal

pub get-requires-clause-index : goal.get-requires-clause-index
get-requires-clause-index c =
    omega (
      arith,
      c.requires.first,
      c.requires.last,
      ap (λ (xs : List (List ℕ)). length xs) (chains-at c.args.self.now c.self.inside.chains c.self.inside.facets c.self.inside.cofaces
          (held c.self.inside.space.now c.args.self.now c.self.inside.chains c.self.inside.facets c.self.inside.cofaces c.self.view_is c.self.invariant) c.args.degree c.requires.degree),
    )

pub returns-clause-chain : goal.returns-clause-chain
returns-clause-chain c = c.get.ensures ∙ ap (λ (xs : List (List ℕ)). get_or xs (c.args.number - 1) []) (chains-at c.args.self.now c.self.inside.chains c.self.inside.facets c.self.inside.cofaces
    (held c.self.inside.space.now c.args.self.now c.self.inside.chains c.self.inside.facets c.self.inside.cofaces c.self.view_is c.self.invariant) c.args.degree c.requires.degree)

pub returns-clause-long : goal.returns-clause-long
returns-clause-long c =
    ap (λ (x : List ℕ). length x) (c.get.ensures ∙ ap (λ (xs : List (List ℕ)). get_or xs (c.args.number - 1) []) (chains-at c.args.self.now c.self.inside.chains c.self.inside.facets c.self.inside.cofaces
    (held c.self.inside.space.now c.args.self.now c.self.inside.chains c.self.inside.facets c.self.inside.cofaces c.self.view_is c.self.invariant) c.args.degree c.requires.degree))
    ∙ chain-long c.args.self.now c.args.degree (c.args.number - 1) (omega (arith, c.requires.first, c.requires.last))
