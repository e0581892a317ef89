use Rattle.pair_laws.proofs.Sections.{ordered_flat}
use Rattle.pair_laws.proofs.walks.ordered_lowers_are_flat.Goals as goal

pub returns : goal.returns
returns c = ordered_flat
