use Rattle.std.proofs.Common.{◌∙◌, ◌+◌, ◌-◌, sym, ap, arith, List, rules, map}
use Rattle.std.specs.List.{range_with_len}
use Rattle.certificates.specs.declared.lines.ProductLine.{ProductLine}
use Rattle.cert_lines.specs.Readers.{each}
use Rattle.cert_text.specs.Reading.{read_product}
use Rattle.cert_text.specs.Taking.{onto}
use Rattle.cert_text.proofs.EachLemmas.{place-more, place-broken, place-over}
use Rattle.cert_text.proofs.TakingLemmas.{breaks}
use Rattle.cert_text.proofs.products.read_row.Goals as goal

pub returns-in_err-product : goal.returns-in_err-product
returns-in_err-product c =
    breaks _ _ _ c.from_residual.result c.in_err-product.field-0.0 (search rules)
    (λ h. c.seconds.invariant.read
    ∙ place-broken (read_product c.args.frame.version c.args.frame.modulus c.args.frame.chains c.args.frame.classes.now) (λ b. (c.args.i, c.args.a, c.args.j, b)) c.seconds.products c.seconds.done c.args.seconds c.seconds.lines c.in_err-product.field-0.0 (omega (arith, c.seconds-test.true)) (c.in_err-product.ensures h))

pub returns : goal.returns
returns c =
    c.seconds.invariant.read
    ∙ place-over (read_product c.args.frame.version c.args.frame.modulus c.args.frame.chains c.args.frame.classes.now) (λ b. (c.args.i, c.args.a, c.args.j, b)) c.seconds.products c.seconds.done c.args.seconds c.seconds.lines (omega (arith, c.seconds-test.false))

pub seconds-preserved : goal.seconds-preserved
seconds-preserved c = record {
  read = c.seconds.invariant.read
      ∙ (place-more (read_product c.args.frame.version c.args.frame.modulus c.args.frame.chains c.args.frame.classes.now) (λ b. (c.args.i, c.args.a, c.args.j, b)) c.seconds.products c.seconds.done c.args.seconds c.seconds.lines c.read_product.new.lines c.in_ok-product.product (omega (arith, c.seconds-test.true)) c.in_ok-product.ensures
      ∙ ap (λ (ys : List ProductLine). onto ys (each (read_product c.args.frame.version c.args.frame.modulus c.args.frame.chains c.args.frame.classes.now) (map (λ b. (c.args.i, c.args.a, c.args.j, b)) (range_with_len (c.seconds.done + 1 + 1) (c.args.seconds - (c.seconds.done + 1)))) c.read_product.new.lines)) (sym c.in_ok-push.ensures.pushed));
  within = omega (arith, c.seconds-test.true);
}
