use Rattle.std.proofs.Common.{◌∙◌, sym, rules}
use Rattle.cert_text.proofs.SideLemmas.{sides-refused, left-out, right-out, both-in}
use Rattle.cert_text.proofs.TakingLemmas.{breaks, out_of}
use Rattle.cert_text.proofs.homology.read_sides.Goals as goal

pub returns-in_err-line : goal.returns-in_err-line
returns-in_err-line c =
    breaks _ _ _ c.from_residual.result c.in_err-line.field-0.0 (search rules)
    (λ h. sides-refused c.args.version c.args.kind c.args.modulus c.args.low c.args.high c.args.lines.now c.in_err-line.field-0.0 (c.in_err-line.ensures.fault h))

pub returns-in-None : goal.returns-in-None
returns-in-None c = λ h.
    left-out c.args.version c.args.kind c.args.modulus c.args.low c.args.high c.args.lines.now c.take.new.lines c.in_ok-line.line.now c.requires c.in_ok-line.ensures.line (sym c.in-None.is ∙ c.in_ok-entries_at.ensures)
    ∙ out_of _ _ (sym c.number-number.ensures)

pub returns-in-None-2 : goal.returns-in-None-2
returns-in-None-2 c = λ h.
    right-out c.args.version c.args.kind c.args.modulus c.args.low c.args.high c.args.lines.now c.take.new.lines c.in_ok-line.line.now c.in-Some.left c.requires c.in_ok-line.ensures.line (sym c.in-Some.is ∙ c.in_ok-entries_at.ensures) (sym c.in-None-2.is ∙ c.in_ok-entries_behind_bar-in-Some.ensures)
    ∙ out_of _ _ (sym c.number-number.ensures)

pub returns-in-Some-2 : goal.returns-in-Some-2
returns-in-Some-2 c =
    both-in c.args.version c.args.kind c.args.modulus c.args.low c.args.high c.args.lines.now c.take.new.lines c.in_ok-line.line.now c.in-Some.left c.in-Some-2.right c.number-number.result c.requires c.in_ok-line.ensures.line (sym c.in-Some.is ∙ c.in_ok-entries_at.ensures) (sym c.in-Some-2.is ∙ c.in_ok-entries_behind_bar-in-Some.ensures)
    (sym c.number-number.ensures)
