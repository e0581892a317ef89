use Rattle.std.proofs.Common.{◌∙◌, sym, rules}
use Rattle.cert_text.proofs.ColumnLemmas.{critical-fails, critical-out, critical-in}
use Rattle.cert_text.proofs.TakingLemmas.{breaks, out_of}
use Rattle.cert_text.proofs.columns.read_critical.Goals as goal

pub returns-in_err-numbers : goal.returns-in_err-numbers
returns-in_err-numbers c =
    breaks _ _ _ c.from_residual.result c.in_err-numbers.field-0.0 (search rules)
    (λ h. critical-fails c.args.version c.args.space.now c.args.pairs.now c.args.lines.now c.in_err-numbers.field-0.0 (c.in_err-numbers.ensures h))

pub returns-then-not-are_critical : goal.returns-then-not-are_critical
returns-then-not-are_critical c = λ h.
    critical-out c.args.version c.args.space.now c.args.pairs.now c.args.lines.now c.take_numbers.new.lines c.in_ok-numbers.numbers c.in_ok-numbers.ensures (sym c.are_critical.ensures.fit ∙ c.if-not-are_critical.true)
    ∙ out_of _ _ (sym c.number-number.ensures)

pub returns : goal.returns
returns c =
    critical-in c.args.version c.args.space.now c.args.pairs.now c.args.lines.now c.take_numbers.new.lines c.in_ok-numbers.numbers c.number-number.result c.in_ok-numbers.ensures (sym c.are_critical.ensures.fit ∙ c.if-not-are_critical.false) (sym c.number-number.ensures)
