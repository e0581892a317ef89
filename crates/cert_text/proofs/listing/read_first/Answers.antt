use Rattle.std.proofs.Common.{◌∙◌, sym, rules}
use Rattle.certificates.specs.Cert.{spot_of}
use Rattle.cert_text.proofs.SpotLemmas.{component-of, section-fails, section-out, section-in}
use Rattle.cert_text.proofs.TakingLemmas.{breaks, out_of}
use Rattle.cert_text.proofs.listing.read_first.Goals as goal

pub returns-in_err-component : goal.returns-in_err-component
returns-in_err-component c =
    breaks _ _ _ c.from_residual.result c.in_err-component.field-0.0 (search rules)
    (λ h. section-fails c.args.version c.args.sheets.now.number (spot_of c.args.sheets.now.from) c.args.lines.now c.in_err-component.field-0.0 c.if-version-eq1.false (c.in_err-component.ensures h))

pub returns-then-component-from : goal.returns-then-component-from
returns-then-component-from c = λ h.
    section-out c.args.version c.args.sheets.now.number (spot_of c.args.sheets.now.from) c.args.lines.now c.take_numbers.new.lines c.in_ok-component.field-0 c.if-version-eq1.false c.in_ok-component.ensures
    (λ e. c.if-component-from.true (e ∙ (component-of c.args.sheets.now.from c.component.ensures.valid ∙ (sym c.component.ensures.component ∙ sym c.from.ensures))))
    ∙ out_of _ _ (sym c.number-number.ensures)

pub returns : goal.returns
returns c =
    section-in c.args.version c.args.sheets.now.number c.number-number.result (spot_of c.args.sheets.now.from) c.args.lines.now c.take_numbers.new.lines c.in_ok-component.field-0 c.if-version-eq1.false c.in_ok-component.ensures
    (c.if-component-from.false ∙ (c.from.ensures ∙ (c.component.ensures.component ∙ sym (component-of c.args.sheets.now.from c.component.ensures.valid)))) (sym c.number-number.ensures)
