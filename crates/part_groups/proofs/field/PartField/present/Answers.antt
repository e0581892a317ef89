use Rattle.std.proofs.Common.{sym, ap, ◌∙◌, subst}
use Rattle.edge_words.specs.Words.{Presented}
use Rattle.edge_words.specs.Limits.{IsFault}
use Rattle.part_groups.specs.Groups.{FieldPiece, GroupPiece, group_by, long_cell}
use Rattle.part_groups.proofs.field.PartField.present.Goals as goal

abbrev presented : FieldPiece → Presented → GroupPiece
presented f p = record { piece = f.piece; field = f.field; presentation = p }

pub returns-in-Ok-clause-group : goal.returns-in-Ok-clause-group
returns-in-Ok-clause-group c =
    c.new.ensures
    ∙ (ap (presented (record { piece = c.self.inside.part; field = c.self.inside.field })) c.in-Ok.ensures.presentation ∙ ap group_by c.self.view_is)

pub returns-in-Ok-clause-limits : goal.returns-in-Ok-clause-limits
returns-in-Ok-clause-limits c = ap long_cell (sym c.self.view_is) ∙ c.in-Ok.ensures.limits

pub returns-in-Err-clause-limits : goal.returns-in-Err-clause-limits
returns-in-Err-clause-limits c = subst (λ (f : FieldPiece). IsFault (long_cell f) c.in-Err.fault) c.self.view_is c.in-Err.ensures.limits
