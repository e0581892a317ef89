use Rattle.std.proofs.Common.{◌≤◌, ap, subst, ◌∙◌}
use Rattle.face_poset.specs.Poset.{Layers, IsSpace}
use Rattle.regular_check.specs.Components.{component_count}
use Rattle.part_covers.specs.Covered.{IsGiven, covering_there}
use Rattle.part_covers.proofs.Stages.{there_given, given_numbered}
use Rattle.part_covers.proofs.cover.numbered_cover.Goals as goal

pub returns-clause-cover : goal.returns-clause-cover
returns-clause-cover c =
    let last : c.args.wanted.component ≤ component_count c.args.regular.now =
    subst (λ n. c.args.wanted.component ≤ n) (c.count.ensures ∙ ap component_count c.in_ok-parts.ensures) c.if-wanted-count.false in
    there_given c.args.regular.now c.args.wanted c.cover_in.result last
    (subst (λ (s : Layers). IsGiven (covering_there s c.args.wanted) c.cover_in.result) c.in_ok-parts.ensures c.cover_in.ensures)

pub returns-clause-numbered : goal.returns-clause-numbered
returns-clause-numbered c =
    given_numbered c.numbered_are_covers.ensures c.args.regular.now c.args.wanted c.cover_in.result
    (subst IsSpace c.space.ensures.same c.cells-vertices.ensures.valid) c.space.ensures.regular c.requires (returns-clause-cover c)
