use Rattle.vector_field.proofs.Earlier.{added_pair_closes}
use Rattle.vector_field.proofs.laws.added_pair_closes.Goals as goal

pub returns : goal.returns
returns c = added_pair_closes
