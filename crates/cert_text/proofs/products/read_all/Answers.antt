use Rattle.std.proofs.Common.{◌∙◌, rules}
use Rattle.cert_text.specs.Reading.{read_product}
use Rattle.cert_text.proofs.ProductLemmas.{first-stops, first-read, second-stops, second-read}
use Rattle.cert_text.proofs.TakingLemmas.{breaks}
use Rattle.cert_text.proofs.products.read_all.Goals as goal

pub returns-in_err-read_degrees : goal.returns-in_err-read_degrees
returns-in_err-read_degrees c =
    breaks _ _ _ c.from_residual.result c.in_err-read_degrees.field-0.0 (search rules)
    (λ h. first-stops (read_product c.args.frame.version c.args.frame.modulus c.args.frame.chains c.args.frame.classes.now) c.args.ones c.args.twos c.new-products.result c.args.lines.now c.in_err-read_degrees.field-0.0 c.new-products.ensures (c.in_err-read_degrees.ensures h))

pub returns-in_err-read_degrees-2 : goal.returns-in_err-read_degrees-2
returns-in_err-read_degrees-2 c =
    breaks _ _ _ c.from_residual-in_err-read_degrees-2.result c.in_err-read_degrees-2.field-0.0 (search rules)
    (λ h. first-read (read_product c.args.frame.version c.args.frame.modulus c.args.frame.chains c.args.frame.classes.now) c.args.ones c.args.twos c.new-products.result c.read_degrees.new.products c.args.lines.now c.read_degrees.new.lines c.new-products.ensures c.in_ok-read_degrees.ensures
    ∙ second-stops (read_product c.args.frame.version c.args.frame.modulus c.args.frame.chains c.args.frame.classes.now) c.args.ones c.args.twos c.read_degrees.new.products c.read_degrees.new.lines c.in_err-read_degrees-2.field-0.0 (c.in_err-read_degrees-2.ensures h))

pub returns-in_err-read_degrees-3 : goal.returns-in_err-read_degrees-3
returns-in_err-read_degrees-3 c =
    breaks _ _ _ c.from_residual-in_err-read_degrees-3.result c.in_err-read_degrees-3.field-0.0 (search rules)
    (λ h. first-read (read_product c.args.frame.version c.args.frame.modulus c.args.frame.chains c.args.frame.classes.now) c.args.ones c.args.twos c.new-products.result c.read_degrees.new.products c.args.lines.now c.read_degrees.new.lines c.new-products.ensures c.in_ok-read_degrees.ensures
    ∙ (second-read (read_product c.args.frame.version c.args.frame.modulus c.args.frame.chains c.args.frame.classes.now) c.args.ones c.args.twos c.read_degrees.new.products c.read_degrees-2.new.products c.read_degrees.new.lines c.read_degrees-2.new.lines c.in_ok-read_degrees-2.ensures
    ∙ c.in_err-read_degrees-3.ensures h))

pub returns : goal.returns
returns c =
    first-read (read_product c.args.frame.version c.args.frame.modulus c.args.frame.chains c.args.frame.classes.now) c.args.ones c.args.twos c.new-products.result c.read_degrees.new.products c.args.lines.now c.read_degrees.new.lines c.new-products.ensures c.in_ok-read_degrees.ensures
    ∙ (second-read (read_product c.args.frame.version c.args.frame.modulus c.args.frame.chains c.args.frame.classes.now) c.args.ones c.args.twos c.read_degrees.new.products c.read_degrees-2.new.products c.read_degrees.new.lines c.read_degrees-2.new.lines c.in_ok-read_degrees-2.ensures
    ∙ c.in_ok-read_degrees-3.ensures)
