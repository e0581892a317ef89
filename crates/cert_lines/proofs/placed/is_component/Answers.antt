use Rattle.std.proofs.Common.{◌∙◌, sym, ap}
use Rattle.cert_lines.proofs.SpotLemmas.{ranged, component-number}
use Rattle.cert_lines.proofs.placed.is_component.Goals as goal

pub returns-in-None : goal.returns-in-None
returns-in-None c = ap ranged (sym c.in-None.is ∙ c.read_number.ensures) ∙ component-number c.args.word.now

pub returns-in-Some : goal.returns-in-Some
returns-in-Some c = c.is_between.ensures ∙ (ap ranged (sym c.in-Some.is ∙ c.read_number.ensures) ∙ component-number c.args.word.now)
