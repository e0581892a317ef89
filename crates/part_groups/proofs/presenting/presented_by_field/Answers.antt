use Rattle.std.proofs.Common.{◌≡◌, ◌∙◌, None, ap, subst}
use Rattle.std.proofs.lemmas.Result.{err_from_is_err_and}
use Rattle.edge_words.specs.Limits.{IsFault}
use Rattle.part_groups.specs.Groups.{FieldPiece, GroupPiece, alone, group_by, long_cell}
use Rattle.part_groups.proofs.presenting.presented_by_field.Goals as goal

pub returns-in_err-group-clause-limits : goal.returns-in_err-group-clause-limits
returns-in_err-group-clause-limits c =
    let p = err_from_is_err_and c.from_residual-in_err-group.result c.from_residual-in_err-group.ensures.1 in
    rw (p.1, p.2) (subst (λ (f : FieldPiece). IsFault (long_cell f) c.in_err-group.field-0.0) c.in_ok-field.ensures c.in_err-group.ensures.limits)

pub returns-clause-presentation : goal.returns-clause-presentation
returns-clause-presentation c =
    c.relators_alone.ensures ∙ ap (λ (g : GroupPiece). alone g.presentation) (c.in_ok-group.ensures.group ∙ ap group_by c.in_ok-field.ensures)

pub returns-clause-limits : goal.returns-clause-limits
returns-clause-limits c = subst (λ (f : FieldPiece). long_cell f ≡ None) c.in_ok-field.ensures c.in_ok-group.ensures.limits
