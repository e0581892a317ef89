use Rattle.std.proofs.Common.{◌∙◌, rules}
use Rattle.cert_text.proofs.Equivalents.{then_ok}
use Rattle.cert_text.proofs.TakingLemmas.{breaks, then_err}
use Rattle.cert_text.proofs.BodyLemmas.{end-refused, end-taken}
use Rattle.cert_text.proofs.cover.read_cover.Goals as goal

pub returns-in_err-pairs : goal.returns-in_err-pairs
returns-in_err-pairs c = breaks _ _ _ c.from_residual.result c.in_err-pairs.field-0.0 (search rules) (λ h. then_err _ _ _ (c.in_err-pairs.ensures h))

pub returns-in_err-critical : goal.returns-in_err-critical
returns-in_err-critical c = breaks _ _ _ c.from_residual-in_err-critical.result c.in_err-critical.field-0.0 (search rules) (λ h. then_ok _ _ _ c.in_ok-pairs.ensures ∙ then_err _ _ _ (c.in_err-critical.ensures h))

pub returns-in_err-columns : goal.returns-in_err-columns
returns-in_err-columns c =
    breaks _ _ _ c.from_residual-in_err-columns.result c.in_err-columns.field-0.0 (search rules)
    (λ h. then_ok _ _ _ c.in_ok-pairs.ensures ∙ (then_ok _ _ _ c.in_ok-critical.ensures ∙ then_err _ _ _ (c.in_err-columns.ensures h)))

pub returns-in_err-sheets : goal.returns-in_err-sheets
returns-in_err-sheets c =
    breaks _ _ _ c.from_residual-in_err-sheets.result c.in_err-sheets.field-0.0 (search rules)
    (λ h. then_ok _ _ _ c.in_ok-pairs.ensures ∙ (then_ok _ _ _ c.in_ok-critical.ensures ∙ (then_ok _ _ _ c.in_ok-columns.ensures ∙ then_err _ _ _ (c.in_err-sheets.ensures.read h))))

pub returns-in_err-listing : goal.returns-in_err-listing
returns-in_err-listing c =
    breaks _ _ _ c.from_residual-in_err-listing.result c.in_err-listing.field-0.0 (search rules)
    (λ h. then_ok _ _ _ c.in_ok-pairs.ensures ∙ (then_ok _ _ _ c.in_ok-critical.ensures ∙ (then_ok _ _ _ c.in_ok-columns.ensures ∙ (then_ok _ _ _ c.in_ok-sheets.ensures.read ∙ then_err _ _ _ (c.in_err-listing.ensures h)))))

pub returns-in_err-take : goal.returns-in_err-take
returns-in_err-take c =
    breaks _ _ _ c.from_residual-in_err-take.result c.in_err-take.field-0.0 (search rules)
    (λ h. then_ok _ _ _ c.in_ok-pairs.ensures ∙ (then_ok _ _ _ c.in_ok-critical.ensures ∙ (then_ok _ _ _ c.in_ok-columns.ensures ∙ (then_ok _ _ _ c.in_ok-sheets.ensures.read ∙ (then_ok _ _ _ c.in_ok-listing.ensures ∙ then_err _ _ _ (end-refused _ _ _ (c.in_err-take.ensures.fault h)))))))

pub returns : goal.returns
returns c = then_ok _ _ _ c.in_ok-pairs.ensures ∙ (then_ok _ _ _ c.in_ok-critical.ensures ∙ (then_ok _ _ _ c.in_ok-columns.ensures ∙ (then_ok _ _ _ c.in_ok-sheets.ensures.read ∙ (then_ok _ _ _ c.in_ok-listing.ensures ∙ then_ok _ _ _ (end-taken _ _ _ _ c.in_ok-take.ensures.line)))))
