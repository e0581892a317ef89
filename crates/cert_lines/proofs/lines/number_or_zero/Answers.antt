use Rattle.std.proofs.Common.{◌∙◌, ap}
use Rattle.std.specs.Option.{unwrap_or}
use Rattle.cert_lines.specs.Listed.{numbers_in}
use Rattle.cert_lines.proofs.LineLemmas.{or_zero}
use Rattle.cert_lines.proofs.lines.number_or_zero.Goals as goal

pub returns : goal.returns
returns c = c.unwrap_or.ensures ∙ (ap (λ o. unwrap_or o 0) c.number_at.ensures ∙ or_zero (numbers_in c.args.line.now) c.args.place)
