use Rattle.std.proofs.Common.{◌∙◌, ℕ, Ok, sym, ap}
use Rattle.std.specs.Option.{option_map}
use Rattle.certificates.specs.Cert.{spot_of}
use Rattle.certificates.specs.WellFormed.{is_between, spot_fits}
use Rattle.cert_text.specs.Reading.{numbered_if}
use Rattle.cert_text.proofs.SpotLemmas.{most-out, no-start, start-out, start-in}
use Rattle.cert_text.proofs.TakingLemmas.{out_of}
use Rattle.cert_text.proofs.spots.read_sheets.Goals as goal

pub returns-then-not-is_most-clause-read : goal.returns-then-not-is_most-clause-read
returns-then-not-is_most-clause-read c = λ h.
    most-out c.args.version c.args.columns.now c.args.lines.now c.take.new.lines c.in_ok-line.line.now c.in_ok-line.ensures.line (ap (is_between 1 8) (sym c.number_or_zero-most.ensures) ∙ (sym c.is_most.ensures ∙ c.if-not-is_most.true))
    ∙ out_of _ _ (sym c.number-number.ensures)

pub returns-in-None-clause-read : goal.returns-in-None-clause-read
returns-in-None-clause-read c = λ h.
    no-start c.args.version c.args.columns.now c.args.lines.now c.take.new.lines c.in_ok-line.line.now c.in_ok-line.ensures.line (sym (ap (λ o. option_map spot_of o) c.in-None.is) ∙ c.in_ok-spot_at.ensures)
    ∙ out_of _ _ (sym c.number-number.ensures)

pub returns-then-spot_fits-clause-read : goal.returns-then-spot_fits-clause-read
returns-then-spot_fits-clause-read c =
    start-in c.args.version c.args.columns.now c.args.lines.now c.take.new.lines c.in_ok-line.line.now (spot_of c.in-Some.from) c.number-number.result c.in_ok-line.ensures.line
    (ap (is_between 1 8) (sym c.number_or_zero-most.ensures) ∙ (sym c.is_most.ensures ∙ c.if-not-is_most.false))
    (sym (ap (λ o. option_map spot_of o) c.in-Some.is) ∙ c.in_ok-spot_at.ensures)
    (ap (λ (n : ℕ). spot_fits c.args.columns.now n (spot_of c.in-Some.from)) (sym c.number_or_zero-most.ensures) ∙ (sym c.spot_fits.ensures ∙ c.if-spot_fits.true))
    (sym c.number-number.ensures)
    ∙ ap (λ (n : ℕ). Ok ((numbered_if c.args.version c.number-number.result, n, spot_of c.in-Some.from), c.take.new.lines)) (sym c.number_or_zero-most.ensures)

pub returns-else-spot_fits-clause-read : goal.returns-else-spot_fits-clause-read
returns-else-spot_fits-clause-read c = λ h.
    start-out c.args.version c.args.columns.now c.args.lines.now c.take.new.lines c.in_ok-line.line.now (spot_of c.in-Some.from) c.in_ok-line.ensures.line
    (ap (is_between 1 8) (sym c.number_or_zero-most.ensures) ∙ (sym c.is_most.ensures ∙ c.if-not-is_most.false))
    (sym (ap (λ o. option_map spot_of o) c.in-Some.is) ∙ c.in_ok-spot_at.ensures)
    (ap (λ (n : ℕ). spot_fits c.args.columns.now n (spot_of c.in-Some.from)) (sym c.number_or_zero-most.ensures) ∙ (sym c.spot_fits.ensures ∙ c.if-spot_fits.false))
    ∙ out_of _ _ (sym c.number-number.ensures)
