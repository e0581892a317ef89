use Rattle.sheet_laws.proofs.Leasts.{least_is_exact}
use Rattle.sheet_laws.proofs.least_is_exact.Goals as goal

pub returns : goal.returns
returns c = least_is_exact
