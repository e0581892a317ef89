use Rattle.pair_laws.proofs.Sections.{grown_flat}
use Rattle.pair_laws.proofs.walks.trees_have_sections.Goals as goal

pub returns : goal.returns
returns c = grown_flat
