use Rattle.hap_ends.proofs.Telling.{tells}
use Rattle.hap_ends.proofs.outcome.end_with.Goals as goal

pub returns-clause-line : goal.returns-clause-line
returns-clause-line g c = tells _ _ _ _ _ c.write_line.result c.write_line.ensures.bytes c.write_line.ensures.cause
