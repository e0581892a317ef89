use Rattle.std.proofs.Common.{◌≡◌, ◌∙◌, arith}
use Rattle.face_poset.specs.Poset.{Layers, count}
use Rattle.space_parts.specs.Parts.{part_of}
use Rattle.chosen_field.specs.Laws.{IsConnected}
use Rattle.part_groups.proofs.Wholes.{no-disks, presented-trivial, long-trivial}
use Rattle.part_groups.proofs.presenting.presented_in.Goals as goal

pub returns-then-cells-eq0-clause-presentation : goal.returns-then-cells-eq0-clause-presentation
returns-then-cells-eq0-clause-presentation c =
    let part : Layers = part_of c.args.parts.now c.args.component in
    let none : count part 1 ≡ 0 = omega (arith, c.cells.ensures.cells, c.if-cells-eq0.true) in
    c.trivial.ensures ∙ presented-trivial c.args.parts.now c.args.component none (no-disks part c.cells.ensures.whole.valid none)

pub returns-then-cells-eq0-clause-limits : goal.returns-then-cells-eq0-clause-limits
returns-then-cells-eq0-clause-limits c =
    let part : Layers = part_of c.args.parts.now c.args.component in
    let none : count part 1 ≡ 0 = omega (arith, c.cells.ensures.cells, c.if-cells-eq0.true) in
    let whole : IsConnected part = record { valid = c.cells.ensures.whole.valid; regular = c.cells.ensures.whole.regular; one = c.cells.ensures.whole.one } in
    long-trivial c.args.parts.now c.args.component none (no-disks part c.cells.ensures.whole.valid none) (c.chosen_is_good.ensures part whole).valid
