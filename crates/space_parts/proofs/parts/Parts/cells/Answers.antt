use Rattle.std.proofs.Common.{◌≡◌, ℕ, ◌≤◌, List, length, ap, ◌∙◌, arith}
use Rattle.face_poset.specs.Poset.{count}
use Rattle.regular_check.specs.Components.{component_count}
use Rattle.space_parts.specs.Parts.{part_of}
use Rattle.space_parts.proofs.Given.{room, own_many, own_few}
use Rattle.space_parts.proofs.parts.Parts.cells.Goals as goal

pub cells-requires-clause-last : goal.cells-requires-clause-last
cells-requires-clause-last c =
    let high : c.args.component ≤ component_count c.self.inside.space.now = omega (arith, c.requires.last, ap component_count c.self.view_is) in
    room c.self.inside.space.now c.self.inside.listing.cells c.self.inside.listing.places c.args.component c.args.dim c.self.invariant.listing (omega (arith, c.requires.dim)) high

pub overflow_cast-result : goal.overflow_cast-result
overflow_cast-result c =
    let high : c.args.component ≤ component_count c.self.inside.space.now = omega (arith, c.requires.last, ap component_count c.self.view_is) in
    let many : length c.cells.result.now ≡ count (part_of c.self.inside.space.now c.args.component) c.args.dim =
    own_many c.self.inside.space.now c.self.inside.listing.cells c.self.inside.listing.places c.args.component c.args.dim c.cells.result.now c.self.invariant.listing c.requires.dim c.requires.first high c.cells.ensures in
    omega (arith, many, own_few c.self.inside.space.now c.args.component c.args.dim c.self.invariant.limited c.requires.dim)

pub returns-clause-cells : goal.returns-clause-cells
returns-clause-cells c =
    let high : c.args.component ≤ component_count c.self.inside.space.now = omega (arith, c.requires.last, ap component_count c.self.view_is) in
    own_many c.self.inside.space.now c.self.inside.listing.cells c.self.inside.listing.places c.args.component c.args.dim c.cells.result.now c.self.invariant.listing c.requires.dim c.requires.first high c.cells.ensures
    ∙ ap (λ (s : List (List (List ℕ))). count (part_of s c.args.component) c.args.dim) c.self.view_is
