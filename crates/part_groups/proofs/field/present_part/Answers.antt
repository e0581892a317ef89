use Rattle.std.proofs.Common.{◌≡◌, Some, sym, ap, ◌∙◌}
use Rattle.std.specs.Prelude.{option_map}
use Rattle.edge_words.specs.Limits.{too_long}
use Rattle.part_groups.specs.Groups.{whole_cell}
use Rattle.part_groups.proofs.LongCells.{long-there}
use Rattle.part_groups.proofs.Made.{fault-cell}
use Rattle.part_groups.proofs.field.present_part.Goals as goal

pub whole_cell-requires-clause-first : goal.whole_cell-requires-clause-first
whole_cell-requires-clause-first c =
    let first = fault-cell _ _ _ c.in-Err-TooLong.field-0-is c.in-Err-TooLong.ensures.limits in
    let named : too_long c.args.part.now.space c.args.field.now.pairs ≡ Some c.in-Err-TooLong.cell = ap (λ s. too_long s c.args.field.now.pairs) (sym c.in_ok-regular.ensures.same) ∙ first in
    (long-there c.args.part.now.space c.args.field.now.pairs c.in-Err-TooLong.cell c.requires.valid named).first

pub whole_cell-requires-clause-last : goal.whole_cell-requires-clause-last
whole_cell-requires-clause-last c =
    let first = fault-cell _ _ _ c.in-Err-TooLong.field-0-is c.in-Err-TooLong.ensures.limits in
    let named : too_long c.args.part.now.space c.args.field.now.pairs ≡ Some c.in-Err-TooLong.cell = ap (λ s. too_long s c.args.field.now.pairs) (sym c.in_ok-regular.ensures.same) ∙ first in
    (long-there c.args.part.now.space c.args.field.now.pairs c.in-Err-TooLong.cell c.requires.valid named).last

pub returns-in-Err-TooLong-clause-limits : goal.returns-in-Err-TooLong-clause-limits
returns-in-Err-TooLong-clause-limits c =
    let first = fault-cell _ _ _ c.in-Err-TooLong.field-0-is c.in-Err-TooLong.ensures.limits in
    let named : too_long c.args.part.now.space c.args.field.now.pairs ≡ Some c.in-Err-TooLong.cell = ap (λ s. too_long s c.args.field.now.pairs) (sym c.in_ok-regular.ensures.same) ∙ first in
    ap (option_map (whole_cell c.args.part.now)) named ∙ ap Some (sym c.whole_cell.ensures)
