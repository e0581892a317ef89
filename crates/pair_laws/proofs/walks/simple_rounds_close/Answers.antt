use Rattle.pair_laws.proofs.Sections.{simple_closes}
use Rattle.pair_laws.proofs.walks.simple_rounds_close.Goals as goal

pub returns : goal.returns
returns c = simple_closes
