use Rattle.facet_reader.proofs.SetRegularity.{sets_regular}
use Rattle.facet_reader.proofs.laws.set_spaces_are_regular.Goals as goal

pub returns : goal.returns
returns c = sets_regular
