use Rattle.vector_field.proofs.Earlier.{valid_closes_none}
use Rattle.vector_field.proofs.laws.valid_closes_none.Goals as goal

pub returns : goal.returns
returns c = valid_closes_none
