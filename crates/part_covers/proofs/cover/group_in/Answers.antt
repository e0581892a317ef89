use Rattle.std.proofs.Common.{◌≡◌, IfOk, MatchResult, None, subst}
use Rattle.edge_words.specs.Limits.{IsFault}
use Rattle.part_groups.specs.Groups.{FieldPiece, group_by, long_cell}
use Rattle.part_covers.proofs.cover.group_in.Goals as goal

pub returns-clause-group : goal.returns-clause-group
returns-clause-group c = subst (λ (f : FieldPiece). IfOk c.present.result (λ group. group ≡ group_by f)) c.in_ok-field.ensures c.present.ensures.group

pub returns-clause-limits : goal.returns-clause-limits
returns-clause-limits c = subst (λ (f : FieldPiece). MatchResult c.present.result (λ _. long_cell f ≡ None) (IsFault (long_cell f))) c.in_ok-field.ensures c.present.ensures.limits
