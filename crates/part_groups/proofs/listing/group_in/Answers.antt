use Rattle.std.proofs.Common.{◌≡◌, ℕ, List, [], ap, ◌∙◌, arith}
use Rattle.std.specs.Prelude.{ℤ}
use Rattle.face_poset.specs.Poset.{Layers, count}
use Rattle.space_parts.specs.Parts.{part_of}
use Rattle.chosen_field.specs.Laws.{IsConnected}
use Rattle.edge_words.specs.Words.{Presented}
use Rattle.part_groups.specs.Groups.{Generated}
use Rattle.part_groups.proofs.Wholes.{no-disks, group-trivial, long-trivial}
use Rattle.part_groups.proofs.listing.group_in.Goals as goal

pub returns-then-cells-eq0-clause-group : goal.returns-then-cells-eq0-clause-group
returns-then-cells-eq0-clause-group c =
    let part : Layers = part_of c.args.parts.now c.args.component in
    let none : count part 1 ≡ 0 = omega (arith, c.cells.ensures.cells, c.if-cells-eq0.true) in
    ap (λ (es : List ℕ). let g : Generated = record { edges = es; relators = c.trivial.result.relators } in g) c.new.ensures.items
    ∙ (ap (λ (rs : List (List ℤ)). let g : Generated = record { edges = []; relators = rs } in g) (ap (λ (r : Presented). r.relators) c.trivial.ensures)
    ∙ group-trivial c.args.parts.now c.args.component none (no-disks part c.cells.ensures.whole.valid none))

pub returns-then-cells-eq0-clause-limits : goal.returns-then-cells-eq0-clause-limits
returns-then-cells-eq0-clause-limits c =
    let part : Layers = part_of c.args.parts.now c.args.component in
    let none : count part 1 ≡ 0 = omega (arith, c.cells.ensures.cells, c.if-cells-eq0.true) in
    let whole : IsConnected part = record { valid = c.cells.ensures.whole.valid; regular = c.cells.ensures.whole.regular; one = c.cells.ensures.whole.one } in
    long-trivial c.args.parts.now c.args.component none (no-disks part c.cells.ensures.whole.valid none) (c.chosen_is_good.ensures part whole).valid
