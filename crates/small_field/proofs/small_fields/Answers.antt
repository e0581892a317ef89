use Rattle.small_field.proofs.SmallFields.{small_fields}
use Rattle.small_field.proofs.small_fields.Goals as goal

pub returns : goal.returns
returns c = small_fields
