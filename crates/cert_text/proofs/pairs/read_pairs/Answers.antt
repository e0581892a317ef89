use Rattle.std.proofs.Common.{◌≤◌, ◌∙◌, ◌-◌, sym, ap, arith, List, rules}
use Rattle.certificates.specs.declared.lines.PairLine.{PairLine}
use Rattle.cert_lines.specs.Readers.{many}
use Rattle.cert_text.specs.Reading.{read_pair}
use Rattle.cert_text.specs.Taking.{onto}
use Rattle.cert_text.proofs.Loops.{many-more, many-broken}
use Rattle.cert_text.proofs.TakingLemmas.{breaks}
use Rattle.cert_text.proofs.pairs.read_pairs.Goals as goal

pub returns-in_err-pair : goal.returns-in_err-pair
returns-in_err-pair c =
    breaks _ _ _ c.from_residual.result c.in_err-pair.field-0.0 (search rules)
    (λ h. c.pairs.invariant ∙ many-broken (read_pair c.args.version c.args.space.now) c.pairs.pairs c.pairs.left c.pairs.lines c.in_err-pair.field-0.0 (omega (arith, c.pairs-test.true)) (c.in_err-pair.ensures h))

pub pairs-preserved : goal.pairs-preserved
pairs-preserved c =
    let some : 1 ≤ c.pairs.left = omega (arith, c.pairs-test.true) in
    c.pairs.invariant
    ∙ (many-more (read_pair c.args.version c.args.space.now) c.pairs.pairs c.pairs.left c.pairs.lines c.read_pair.new.lines c.in_ok-pair.pair some c.in_ok-pair.ensures
    ∙ ap (λ (ys : List PairLine). onto ys (many (c.pairs.left - 1) (read_pair c.args.version c.args.space.now) c.read_pair.new.lines)) (sym c.in_ok-push.ensures.pushed))
