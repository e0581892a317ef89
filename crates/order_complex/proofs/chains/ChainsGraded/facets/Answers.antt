use Rattle.std.proofs.Common.{◌-◌, ◌<◌, List, ℕ, [], length, get_or, ap, sym, ◌∙◌, subst, arith}
use Rattle.order_complex.proofs.Held.{held, no-facets, edge-at, triangle-at, tetrahedron-at, valid}
use Rattle.order_complex.proofs.chains.ChainsGraded.facets.Goals as goal

pub get-requires-clause-index : goal.get-requires-clause-index
get-requires-clause-index c = (edge-at c.args.self.now c.self.inside.chains c.self.inside.facets c.self.inside.cofaces
    (held c.self.inside.space.now c.args.self.now c.self.inside.chains c.self.inside.facets c.self.inside.cofaces c.self.view_is c.self.invariant) c.args.dim c.args.cell (omega arith) c.requires.first c.requires.last).0

pub bounds-triangles-cell : goal.bounds-triangles-cell
bounds-triangles-cell c =
    subst (λ (xs : List (List ℕ)). c.args.cell - 1 < length xs) (sym c.triangles.ensures) (triangle-at c.args.self.now c.self.inside.chains c.self.inside.facets c.self.inside.cofaces
    (held c.self.inside.space.now c.args.self.now c.self.inside.chains c.self.inside.facets c.self.inside.cofaces c.self.view_is c.self.invariant) c.args.dim c.args.cell (omega arith) c.requires.first c.requires.last).0

pub bounds-tetrahedra-cell : goal.bounds-tetrahedra-cell
bounds-tetrahedra-cell c =
    subst (λ (xs : List (List ℕ)). c.args.cell - 1 < length xs) (sym c.tetrahedra.ensures) (tetrahedron-at c.args.self.now c.self.inside.chains c.self.inside.facets c.self.inside.cofaces
    (held c.self.inside.space.now c.args.self.now c.self.inside.chains c.self.inside.facets c.self.inside.cofaces c.self.view_is c.self.invariant) c.args.dim c.args.cell (omega arith) c.requires.first c.requires.last).0

pub returns-in-0-clause-facets : goal.returns-in-0-clause-facets
returns-in-0-clause-facets c = no-facets c.args.self.now c.self.inside.chains c.self.inside.facets c.self.inside.cofaces
    (held c.self.inside.space.now c.args.self.now c.self.inside.chains c.self.inside.facets c.self.inside.cofaces c.self.view_is c.self.invariant) c.args.dim c.args.cell (omega arith) c.requires.first c.requires.last

pub returns-in-1-clause-facets : goal.returns-in-1-clause-facets
returns-in-1-clause-facets c = c.get.ensures ∙ (edge-at c.args.self.now c.self.inside.chains c.self.inside.facets c.self.inside.cofaces
    (held c.self.inside.space.now c.args.self.now c.self.inside.chains c.self.inside.facets c.self.inside.cofaces c.self.view_is c.self.invariant) c.args.dim c.args.cell (omega arith) c.requires.first c.requires.last).1

pub returns-in-2-clause-facets : goal.returns-in-2-clause-facets
returns-in-2-clause-facets c =
    ap (λ (xs : List (List ℕ)). get_or xs (c.args.cell - 1) []) c.triangles.ensures ∙ (triangle-at c.args.self.now c.self.inside.chains c.self.inside.facets c.self.inside.cofaces
    (held c.self.inside.space.now c.args.self.now c.self.inside.chains c.self.inside.facets c.self.inside.cofaces c.self.view_is c.self.invariant) c.args.dim c.args.cell (omega arith) c.requires.first c.requires.last).1

pub returns-in_default-clause-facets : goal.returns-in_default-clause-facets
returns-in_default-clause-facets c =
    ap (λ (xs : List (List ℕ)). get_or xs (c.args.cell - 1) []) c.tetrahedra.ensures ∙ (tetrahedron-at c.args.self.now c.self.inside.chains c.self.inside.facets c.self.inside.cofaces
    (held c.self.inside.space.now c.args.self.now c.self.inside.chains c.self.inside.facets c.self.inside.cofaces c.self.view_is c.self.invariant) c.args.dim c.args.cell (omega arith) c.requires.first c.requires.last).1

pub returns-in-0-clause-valid : goal.returns-in-0-clause-valid
returns-in-0-clause-valid c = valid c.args.self.now c.self.inside.chains c.self.inside.facets c.self.inside.cofaces
    (held c.self.inside.space.now c.args.self.now c.self.inside.chains c.self.inside.facets c.self.inside.cofaces c.self.view_is c.self.invariant)

pub returns-in-1-clause-valid : goal.returns-in-1-clause-valid
returns-in-1-clause-valid c = valid c.args.self.now c.self.inside.chains c.self.inside.facets c.self.inside.cofaces
    (held c.self.inside.space.now c.args.self.now c.self.inside.chains c.self.inside.facets c.self.inside.cofaces c.self.view_is c.self.invariant)

pub returns-in-2-clause-valid : goal.returns-in-2-clause-valid
returns-in-2-clause-valid c = valid c.args.self.now c.self.inside.chains c.self.inside.facets c.self.inside.cofaces
    (held c.self.inside.space.now c.args.self.now c.self.inside.chains c.self.inside.facets c.self.inside.cofaces c.self.view_is c.self.invariant)

pub returns-in_default-clause-valid : goal.returns-in_default-clause-valid
returns-in_default-clause-valid c = valid c.args.self.now c.self.inside.chains c.self.inside.facets c.self.inside.cofaces
    (held c.self.inside.space.now c.args.self.now c.self.inside.chains c.self.inside.facets c.self.inside.cofaces c.self.view_is c.self.invariant)
