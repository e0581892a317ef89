use Rattle.std.proofs.Common.{◌∙◌, sym, rules}
use Rattle.cert_text.proofs.ColumnLemmas.{column-fails, column-out, column-in}
use Rattle.cert_text.proofs.TakingLemmas.{breaks, out_of}
use Rattle.cert_text.proofs.columns.read_column.Goals as goal

pub returns-in_err-numbers-clause-read : goal.returns-in_err-numbers-clause-read
returns-in_err-numbers-clause-read c =
    breaks _ _ _ c.from_residual.result c.in_err-numbers.field-0.0 (search rules)
    (λ h. column-fails c.args.version c.args.component c.args.later c.args.left c.args.lines.now c.in_err-numbers.field-0.0 (c.in_err-numbers.ensures h))

pub returns-then-not-is_column-clause-read : goal.returns-then-not-is_column-clause-read
returns-then-not-is_column-clause-read c = λ h.
    column-out c.args.version c.args.component c.args.later c.args.left c.args.lines.now c.take_numbers.new.lines c.in_ok-numbers.numbers c.in_ok-numbers.ensures (sym c.is_column.ensures.fit ∙ c.if-not-is_column.true)
    ∙ out_of _ _ (sym c.number-number.ensures)

pub returns-clause-read : goal.returns-clause-read
returns-clause-read c =
    column-in c.args.version c.args.component c.args.later c.args.left c.args.lines.now c.take_numbers.new.lines c.in_ok-numbers.numbers c.in_ok-numbers.ensures (sym c.is_column.ensures.fit ∙ c.if-not-is_column.false)
