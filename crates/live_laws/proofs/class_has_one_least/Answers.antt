use Rattle.live_laws.proofs.Classes.{class_has_one_least}
use Rattle.live_laws.proofs.class_has_one_least.Goals as goal

pub returns : goal.returns
returns c = class_has_one_least
