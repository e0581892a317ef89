use Rattle.std.proofs.Common.{ℕ, sym, subst, rules}
use Rattle.cert_lines.specs.declared.kind.LineKind.{LineKind}
use Rattle.cert_lines.specs.declared.fault.CertFault.TheVariants.{WrongOrder}
use Rattle.cert_lines.specs.Taken.{IsTaken, IsRefused}
use Rattle.cert_lines.proofs.LineLemmas.{other-kind}
use Rattle.cert_lines.proofs.lines.take.Goals as goal

pub returns-then-eq-clause-line : goal.returns-then-eq-clause-line
returns-then-eq-clause-line c =
    subst (λ (k : LineKind). IsTaken c.args.version c.args.lines.now k c.take_any.new.lines c.in_ok-kind.line.now) (search rules) c.in_ok-kind.ensures.line

pub returns-else-eq-clause-fault : goal.returns-else-eq-clause-fault
returns-else-eq-clause-fault c = λ m.
    subst (λ (n : ℕ). IsRefused c.args.version c.args.lines.now c.args.wanted (WrongOrder n)) (sym c.number-number.ensures)
    (other-kind c.args.version c.args.lines.now c.take_any.new.lines c.in_ok-kind.kind c.args.wanted c.in_ok-kind.line.now c.in_ok-kind.ensures.line (λ e. search rules))
