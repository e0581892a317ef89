use Rattle.std.proofs.Common.{◌∙◌, ◌≡◌, ℕ, sym, subst, Err}
use Rattle.cert_lines.specs.declared.fault.CertFault.TheVariants.{BadLine}
use Rattle.cert_lines.specs.Readers.{next_form}
use Rattle.cert_lines.proofs.LineLemmas.{taken-there, taken-none}
use Rattle.cert_lines.proofs.lines.take_any.Goals as goal

pub returns-in-None-clause-fault : goal.returns-in-None-clause-fault
returns-in-None-clause-fault c = λ m.
    subst (λ (n : ℕ). next_form c.args.version c.args.lines.now ≡ Err (BadLine n)) (sym c.number-number.ensures)
    (taken-none c.args.version c.args.lines.now c.next_line.new.self c.in_ok-line.line.now (c.in_ok-line.ensures.line c.args.version) (sym c.line_kind.ensures ∙ c.in-None.is))

pub returns-in-Some-clause-line : goal.returns-in-Some-clause-line
returns-in-Some-clause-line c =
    taken-there c.args.version c.args.lines.now c.next_line.new.self c.in-Some.kind c.in_ok-line.line.now (c.in_ok-line.ensures.line c.args.version) (sym c.line_kind.ensures ∙ c.in-Some.is)
