use Rattle.std.proofs.Common.{◌≤◌, ◌∙◌, ◌-◌, sym, ap, arith, List, rules}
use Rattle.certificates.specs.declared.lines.Line.{Line}
use Rattle.certificates.specs.Degrees.{at}
use Rattle.cert_lines.specs.Readers.{many}
use Rattle.cert_text.specs.Reading.{read_sides}
use Rattle.cert_text.specs.Taking.{lists_if, onto}
use Rattle.cert_text.proofs.Loops.{many-more, many-broken}
use Rattle.cert_text.proofs.SideLemmas.{list-more}
use Rattle.cert_text.proofs.TakingLemmas.{breaks}
use Rattle.cert_text.proofs.homology.read_sides_of.Goals as goal

pub returns-in_err-line-clause-read : goal.returns-in_err-line-clause-read
returns-in_err-line-clause-read c =
    breaks _ _ _ c.from_residual.result c.in_err-line.field-0.0 (search rules)
    (λ h. c.lines.invariant.read ∙ many-broken (read_sides c.args.version (lists_if c.args.kind) c.args.modulus c.args.low c.args.high) (at c.lines.into c.args.degree) c.lines.left c.lines.lines c.in_err-line.field-0.0 (omega (arith, c.lines-test.true)) (c.in_err-line.ensures h))

pub lines-preserved : goal.lines-preserved
lines-preserved c =
    let xs : List Line = at c.lines.into c.args.degree in
    let a = list-more c.args.into.now c.lines.into c.push.new.self c.args.degree c.in_ok-line.line c.requires.four c.requires.high c.lines.invariant.lists c.in_ok-push.ensures.pushed in
    let some : 1 ≤ c.lines.left = omega (arith, c.lines-test.true) in
    record {
      read = c.lines.invariant.read
          ∙ (many-more (read_sides c.args.version (lists_if c.args.kind) c.args.modulus c.args.low c.args.high) xs c.lines.left c.lines.lines c.read_sides.new.lines c.in_ok-line.line some c.in_ok-line.ensures
          ∙ ap (λ (ys : List Line). onto ys (many (c.lines.left - 1) (read_sides c.args.version (lists_if c.args.kind) c.args.modulus c.args.low c.args.high) c.read_sides.new.lines)) (sym a.list));
      lists = a.lists;
    }
