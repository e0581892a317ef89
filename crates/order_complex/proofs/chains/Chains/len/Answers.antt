use Rattle.std.proofs.Common.{List, ℕ, length, ap, ◌∙◌}
use Rattle.order_complex.proofs.Held.{held, chains-at}
use Rattle.order_complex.proofs.chains.Chains.len.Goals as goal

pub returns : goal.returns
returns c = c.len.ensures ∙ ap (λ (xs : List (List ℕ)). length xs) (chains-at c.args.self.now c.self.inside.chains c.self.inside.facets c.self.inside.cofaces
    (held c.self.inside.space.now c.args.self.now c.self.inside.chains c.self.inside.facets c.self.inside.cofaces c.self.view_is c.self.invariant) c.args.degree c.requires)
