use Rattle.std.proofs.Common.{◌∙◌, arith}
use Rattle.order_complex.proofs.Held.{held, coface-at, no-cofaces, valid}
use Rattle.order_complex.proofs.chains.ChainsGraded.cofaces.Goals as goal

pub get-requires-clause-index : goal.get-requires-clause-index
get-requires-clause-index c = (coface-at c.args.self.now c.self.inside.chains c.self.inside.facets c.self.inside.cofaces
    (held c.self.inside.space.now c.args.self.now c.self.inside.chains c.self.inside.facets c.self.inside.cofaces c.self.view_is c.self.invariant) c.args.dim c.args.cell (omega arith) c.requires.first c.requires.last).0

pub returns-then-dim-gt2-clause-cofaces : goal.returns-then-dim-gt2-clause-cofaces
returns-then-dim-gt2-clause-cofaces c = no-cofaces c.args.self.now c.self.inside.chains c.self.inside.facets c.self.inside.cofaces
    (held c.self.inside.space.now c.args.self.now c.self.inside.chains c.self.inside.facets c.self.inside.cofaces c.self.view_is c.self.invariant) c.args.dim c.args.cell (omega arith) c.requires.last c.requires.first

pub returns-else-dim-gt2-clause-cofaces : goal.returns-else-dim-gt2-clause-cofaces
returns-else-dim-gt2-clause-cofaces c = c.get.ensures ∙ (coface-at c.args.self.now c.self.inside.chains c.self.inside.facets c.self.inside.cofaces
    (held c.self.inside.space.now c.args.self.now c.self.inside.chains c.self.inside.facets c.self.inside.cofaces c.self.view_is c.self.invariant) c.args.dim c.args.cell (omega arith) c.requires.first c.requires.last).1

pub returns-then-dim-gt2-clause-valid : goal.returns-then-dim-gt2-clause-valid
returns-then-dim-gt2-clause-valid c = valid c.args.self.now c.self.inside.chains c.self.inside.facets c.self.inside.cofaces
    (held c.self.inside.space.now c.args.self.now c.self.inside.chains c.self.inside.facets c.self.inside.cofaces c.self.view_is c.self.invariant)

pub returns-else-dim-gt2-clause-valid : goal.returns-else-dim-gt2-clause-valid
returns-else-dim-gt2-clause-valid c = valid c.args.self.now c.self.inside.chains c.self.inside.facets c.self.inside.cofaces
    (held c.self.inside.space.now c.args.self.now c.self.inside.chains c.self.inside.facets c.self.inside.cofaces c.self.view_is c.self.invariant)
