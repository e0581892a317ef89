use Rattle.pair_laws.proofs.Sections.{simple_walks}
use Rattle.pair_laws.proofs.walks.simple_walks_end_alike.Goals as goal

pub returns : goal.returns
returns c = simple_walks
