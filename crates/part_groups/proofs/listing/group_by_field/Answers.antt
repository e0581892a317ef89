use Rattle.std.proofs.Common.{subst}
use Rattle.std.proofs.lemmas.Result.{err_from_is_err_and}
use Rattle.edge_words.specs.Limits.{IsFault}
use Rattle.part_groups.specs.Groups.{FieldPiece, long_cell}
use Rattle.part_groups.proofs.listing.group_by_field.Goals as goal

pub returns-in_err-group-clause-limits : goal.returns-in_err-group-clause-limits
returns-in_err-group-clause-limits c =
    let p = err_from_is_err_and c.from_residual-in_err-group.result c.from_residual-in_err-group.ensures.1 in
    rw (p.1, p.2) (subst (λ (f : FieldPiece). IsFault (long_cell f) c.in_err-group.field-0.0) c.in_ok-field.ensures c.in_err-group.ensures.limits)
