use Rattle.local_field.proofs.InsideCells.{local_leaves}
use Rattle.local_field.proofs.laws.local_leaves_over.Goals as goal

pub returns : goal.returns
returns c below dim data_of flag d t flagged full low = local_leaves below dim data_of flag d t flagged full low
