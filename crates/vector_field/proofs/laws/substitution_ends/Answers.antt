use Rattle.vector_field.proofs.Earlier.{substitution_ends}
use Rattle.vector_field.proofs.laws.substitution_ends.Goals as goal

pub returns : goal.returns
returns c = substitution_ends
