use Rattle.std.proofs.Common.{◌∙◌, arith, map, rules}
use Rattle.std.specs.List.{range_with_len}
use Rattle.cert_text.specs.Reading.{read_product}
use Rattle.cert_text.proofs.EachLemmas.{row-more, row-broken, row-over}
use Rattle.cert_text.proofs.TakingLemmas.{breaks}
use Rattle.cert_text.proofs.products.read_degrees.Goals as goal

pub returns-in_err-read_row : goal.returns-in_err-read_row
returns-in_err-read_row c =
    breaks _ _ _ c.from_residual.result c.in_err-read_row.field-0.0 (search rules)
    (λ h. c.firsts.invariant.read
    ∙ row-broken (read_product c.args.frame.version c.args.frame.modulus c.args.frame.chains c.args.frame.classes.now) (λ a. map (λ b. (c.args.i, a, c.args.j, b)) (range_with_len 1 c.args.seconds)) c.firsts.products c.firsts.done c.args.firsts c.firsts.lines c.in_err-read_row.field-0.0 (omega (arith, c.firsts-test.true)) (c.in_err-read_row.ensures h))

pub returns : goal.returns
returns c =
    c.firsts.invariant.read
    ∙ row-over (read_product c.args.frame.version c.args.frame.modulus c.args.frame.chains c.args.frame.classes.now) (λ a. map (λ b. (c.args.i, a, c.args.j, b)) (range_with_len 1 c.args.seconds)) c.firsts.products c.firsts.done c.args.firsts c.firsts.lines (omega (arith, c.firsts-test.false))

pub firsts-preserved : goal.firsts-preserved
firsts-preserved c = record {
  read = c.firsts.invariant.read
      ∙ row-more (read_product c.args.frame.version c.args.frame.modulus c.args.frame.chains c.args.frame.classes.now) (λ a. map (λ b. (c.args.i, a, c.args.j, b)) (range_with_len 1 c.args.seconds)) c.firsts.products c.read_row.new.products c.firsts.done c.args.firsts c.firsts.lines c.read_row.new.lines (omega (arith, c.firsts-test.true)) c.in_ok-read_row.ensures;
  within = omega (arith, c.firsts-test.true);
}
