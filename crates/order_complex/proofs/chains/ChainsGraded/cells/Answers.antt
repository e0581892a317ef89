use Rattle.std.proofs.Common.{List, ℕ, length, ap, sym, ◌∙◌, arith}
use Rattle.order_complex.proofs.Cofaces.{count-chains}
use Rattle.order_complex.proofs.Held.{held, chains-at, valid}
use Rattle.order_complex.proofs.chains.ChainsGraded.cells.Goals as goal

pub returns-then-dim-gt3-clause-valid : goal.returns-then-dim-gt3-clause-valid
returns-then-dim-gt3-clause-valid c = valid c.args.self.now c.self.inside.chains c.self.inside.facets c.self.inside.cofaces
    (held c.self.inside.space.now c.args.self.now c.self.inside.chains c.self.inside.facets c.self.inside.cofaces c.self.view_is c.self.invariant)

pub returns-else-dim-gt3-clause-cells : goal.returns-else-dim-gt3-clause-cells
returns-else-dim-gt3-clause-cells c =
    c.len.ensures ∙ ap (λ (xs : List (List ℕ)). length xs) (chains-at c.args.self.now c.self.inside.chains c.self.inside.facets c.self.inside.cofaces
    (held c.self.inside.space.now c.args.self.now c.self.inside.chains c.self.inside.facets c.self.inside.cofaces c.self.view_is c.self.invariant) c.args.dim (omega arith)) ∙ sym (count-chains c.args.self.now c.args.dim (omega arith))

pub returns-else-dim-gt3-clause-valid : goal.returns-else-dim-gt3-clause-valid
returns-else-dim-gt3-clause-valid c = valid c.args.self.now c.self.inside.chains c.self.inside.facets c.self.inside.cofaces
    (held c.self.inside.space.now c.args.self.now c.self.inside.chains c.self.inside.facets c.self.inside.cofaces c.self.view_is c.self.invariant)
