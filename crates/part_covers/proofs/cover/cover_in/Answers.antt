use Rattle.std.proofs.Common.{ap, sym, ◌∙◌}
use Rattle.face_poset.specs.Poset.{Layers}
use Rattle.space_parts.specs.Parts.{Piece}
use Rattle.chosen_field.specs.Chosen.{chosen}
use Rattle.edge_words.specs.Words.{presentation_of}
use Rattle.part_covers.proofs.Stages.{group_presented, group_part, worded_given}
use Rattle.part_covers.proofs.cover.cover_in.Goals as goal

pub cover_on-requires-clause-presentation : goal.cover_on-requires-clause-presentation
cover_on-requires-clause-presentation c =
    c.into_parts-part.ensures.presentation
    ∙ (group_presented c.args.parts.now c.args.wanted.component c.in_ok-group.group c.in_ok-group.ensures.group
    ∙ ap (λ (s : Layers). presentation_of s (chosen s)) (ap (λ (p : Piece). p.space) (sym c.into_parts-part.ensures.part)))

pub returns : goal.returns
returns c =
    worded_given c.args.parts.now c.into_parts-part.result.0.space c.args.wanted c.cover_on.result
    (ap (λ (p : Piece). p.space) c.into_parts-part.ensures.part ∙ group_part c.args.parts.now c.args.wanted.component c.in_ok-group.group c.in_ok-group.ensures.group)
    c.in_ok-group.ensures.limits c.cover_on.ensures
