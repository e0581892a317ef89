use Rattle.std.proofs.Common.{◌∙◌, sym, ap, Bool, cond, Ok, Err, ℕ, rules}
use Rattle.std.specs.Prelude.{slice_index_or}
use Rattle.cert_lines.specs.declared.fault.CertFault.TheVariants.{BadVersion}
use Rattle.cert_lines.specs.Readers.{Answer}
use Rattle.cert_text.proofs.TakingLemmas.{breaks, version-taken, version-fails}
use Rattle.cert_text.proofs.front.read_version.Goals as goal

pub returns-in_err-version : goal.returns-in_err-version
returns-in_err-version c =
    breaks _ _ _ c.from_residual.result c.in_err-version.field-0.0 (search rules)
    (λ h. version-fails c.args.lines.now c.in_err-version.field-0.0 (c.in_err-version.ensures h))

pub returns-then-not-is_version : goal.returns-then-not-is_version
returns-then-not-is_version c = λ h.
    version-taken c.args.lines.now c.take_numbers.new.lines c.in_ok-version.field-0 c.in_ok-version.ensures
    ∙ ap (λ (t : Bool). cond {A = Answer ℕ} t (Ok (slice_index_or c.in_ok-version.field-0 0 0, c.take_numbers.new.lines)) (Err BadVersion)) (sym c.is_version.ensures ∙ c.if-not-is_version.true)

pub returns : goal.returns
returns c =
    version-taken c.args.lines.now c.take_numbers.new.lines c.in_ok-version.field-0 c.in_ok-version.ensures
    ∙ ap (λ (t : Bool). cond {A = Answer ℕ} t (Ok (slice_index_or c.in_ok-version.field-0 0 0, c.take_numbers.new.lines)) (Err BadVersion)) (sym c.is_version.ensures ∙ c.if-not-is_version.false)
