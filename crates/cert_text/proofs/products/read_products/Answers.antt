use Rattle.std.proofs.Common.{◌∙◌, sym, rules}
use Rattle.cert_text.proofs.ProductLemmas.{products-fail, products-out, products-go}
use Rattle.cert_text.proofs.TakingLemmas.{breaks, continues, out_of}
use Rattle.cert_text.proofs.products.read_products.Goals as goal

pub returns-in_err-stated : goal.returns-in_err-stated
returns-in_err-stated c =
    breaks _ _ _ c.from_residual.result c.in_err-stated.field-0.0 (search rules)
    (λ h. products-fail c.args.version c.args.modulus c.args.chains c.args.classes.now c.args.lines.now c.in_err-stated.field-0.0 (c.in_err-stated.ensures h))

pub returns-then-not-is_count : goal.returns-then-not-is_count
returns-then-not-is_count c = λ h.
    products-out c.args.version c.args.modulus c.args.chains c.args.classes.now c.args.lines.now c.take_numbers.new.lines c.in_ok-stated.field-0 c.len-ones.result c.len-twos.result c.len-ones.ensures c.len-twos.ensures c.in_ok-stated.ensures (sym c.is_count.ensures ∙ c.if-not-is_count.true)
    ∙ out_of _ _ (sym c.number-number.ensures)

pub returns : goal.returns
returns c =
    continues _ _ _ c.read_all.new.lines c.read_all.result
    (products-go c.args.version c.args.modulus c.args.chains c.args.classes.now c.args.lines.now c.take_numbers.new.lines c.in_ok-stated.field-0 c.len-ones.result c.len-twos.result c.len-ones.ensures c.len-twos.ensures c.in_ok-stated.ensures (sym c.is_count.ensures ∙ c.if-not-is_count.false))
    c.read_all.ensures
