use Rattle.std.proofs.Common.{◌∙◌, sym, rules}
use Rattle.std.specs.Prelude.{slice_index_or}
use Rattle.small_field.specs.Modulus.{is_modulus}
use Rattle.certificates.specs.declared.kind.Kind.TheVariants as kind
use Rattle.cert_text.specs.Picks.{pick_modulus}
use Rattle.cert_text.proofs.TakingLemmas.{breaks, fits-line, unfit-line, fails-line, out_of, modulus-pick}
use Rattle.cert_text.proofs.front.read_modulus.Goals as goal

pub returns-in_err-modulus : goal.returns-in_err-modulus
returns-in_err-modulus c =
    breaks _ _ _ c.from_residual.result c.in_err-modulus.field-0.0 (search rules)
    (λ h. fails-line c.args.version c.args.lines.now kind.Modulus c.in_err-modulus.field-0.0 pick_modulus (λ ns. slice_index_or ns 0 0) is_modulus modulus-pick (c.in_err-modulus.ensures h))

pub returns-then-not-has_field : goal.returns-then-not-has_field
returns-then-not-has_field c = λ h.
    unfit-line c.args.version c.args.lines.now c.take_numbers.new.lines kind.Modulus c.in_ok-modulus.field-0 pick_modulus (λ ns. slice_index_or ns 0 0) is_modulus modulus-pick (sym c.has_field.ensures ∙ c.if-not-has_field.true) c.in_ok-modulus.ensures
    ∙ out_of _ _ (sym c.number-number.ensures)

pub returns : goal.returns
returns c =
    fits-line c.args.version c.args.lines.now c.take_numbers.new.lines kind.Modulus c.in_ok-modulus.field-0 pick_modulus (λ ns. slice_index_or ns 0 0) is_modulus modulus-pick (sym c.has_field.ensures ∙ c.if-not-has_field.false) c.in_ok-modulus.ensures
