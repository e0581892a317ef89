use Rattle.part_groups.proofs.Made.{field-made}
use Rattle.part_groups.proofs.field.field_of_part.Goals as goal

pub returns : goal.returns
returns c =
    field-made c.args.parts.now c.args.component c.in_ok-part.part c.in_ok-field.field c.in_ok-part.ensures c.in_ok-field.ensures.chosen c.in_ok-field.ensures.field.counts
