use Rattle.std.proofs.Common.{◌∙◌, sym}
use Rattle.cert_lines.proofs.SpotTexts.{spot-none}
use Rattle.cert_lines.proofs.spot.read_spot.Goals as goal

pub returns-in-Err : goal.returns-in-Err
returns-in-Err c = spot-none c.args.word.now (sym c.is_same.ensures ∙ c.if-is_same.false) c.in-Err.ensures.cases.0
