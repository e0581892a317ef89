use Rattle.sheet_laws.proofs.Joined.{connected_is_exact}
use Rattle.sheet_laws.proofs.connected_is_exact.Goals as goal

pub returns : goal.returns
returns c = connected_is_exact
