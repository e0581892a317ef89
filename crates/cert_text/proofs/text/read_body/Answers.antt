use Rattle.std.proofs.Common.{◌∙◌, rules}
use Rattle.cert_text.proofs.Equivalents.{then_ok}
use Rattle.cert_text.proofs.TakingLemmas.{breaks, then_err}
use Rattle.cert_text.proofs.BodyLemmas.{space-valid}
use Rattle.cert_text.proofs.text.read_body.Goals as goal

pub returns-in_err-modulus : goal.returns-in_err-modulus
returns-in_err-modulus c = breaks _ _ _ c.from_residual.result c.in_err-modulus.field-0.0 (search rules) (λ h. then_err _ _ _ (c.in_err-modulus.ensures h))

pub returns-in_err-space : goal.returns-in_err-space
returns-in_err-space c = breaks _ _ _ c.from_residual-in_err-space.result c.in_err-space.field-0.0 (search rules) (λ h. then_ok _ _ _ c.in_ok-modulus.ensures ∙ then_err _ _ _ (c.in_err-space.ensures h))

pub returns-in_err-chains : goal.returns-in_err-chains
returns-in_err-chains c =
    breaks _ _ _ c.from_residual-in_err-chains.result c.in_err-chains.field-0.0 (search rules)
    (λ h. then_ok _ _ _ c.in_ok-modulus.ensures ∙ (then_ok _ _ _ c.in_ok-space.ensures ∙ then_err _ _ _ (c.in_err-chains.ensures h)))

pub returns-in_err-ranks : goal.returns-in_err-ranks
returns-in_err-ranks c =
    breaks _ _ _ c.from_residual-in_err-ranks.result c.in_err-ranks.field-0.0 (search rules)
    (λ h. then_ok _ _ _ c.in_ok-modulus.ensures ∙ (then_ok _ _ _ c.in_ok-space.ensures ∙ (then_ok _ _ _ c.in_ok-chains.ensures ∙ then_err _ _ _ (c.in_err-ranks.ensures h))))

pub returns-in_err-classes : goal.returns-in_err-classes
returns-in_err-classes c =
    breaks _ _ _ c.from_residual-in_err-classes.result c.in_err-classes.field-0.0 (search rules)
    (λ h. then_ok _ _ _ c.in_ok-modulus.ensures ∙ (then_ok _ _ _ c.in_ok-space.ensures ∙ (then_ok _ _ _ c.in_ok-chains.ensures ∙ (then_ok _ _ _ c.in_ok-ranks.ensures ∙ then_err _ _ _ (c.in_err-classes.ensures h)))))

pub returns-in_err-products : goal.returns-in_err-products
returns-in_err-products c =
    breaks _ _ _ c.from_residual-in_err-products.result c.in_err-products.field-0.0 (search rules)
    (λ h. then_ok _ _ _ c.in_ok-modulus.ensures ∙ (then_ok _ _ _ c.in_ok-space.ensures ∙ (then_ok _ _ _ c.in_ok-chains.ensures ∙ (then_ok _ _ _ c.in_ok-ranks.ensures ∙ (then_ok _ _ _ c.in_ok-classes.ensures ∙ then_err _ _ _ (c.in_err-products.ensures h))))))

pub returns-in_err-cover : goal.returns-in_err-cover
returns-in_err-cover c =
    breaks _ _ _ c.from_residual-in_err-cover.result c.in_err-cover.field-0.0 (search rules)
    (λ h. then_ok _ _ _ c.in_ok-modulus.ensures ∙ (then_ok _ _ _ c.in_ok-space.ensures ∙ (then_ok _ _ _ c.in_ok-chains.ensures ∙ (then_ok _ _ _ c.in_ok-ranks.ensures ∙ (then_ok _ _ _ c.in_ok-classes.ensures ∙ (then_ok _ _ _ c.in_ok-products.ensures ∙ then_err _ _ _ (c.in_err-cover.ensures h)))))))

pub returns : goal.returns
returns c = then_ok _ _ _ c.in_ok-modulus.ensures ∙ (then_ok _ _ _ c.in_ok-space.ensures ∙ (then_ok _ _ _ c.in_ok-chains.ensures ∙ (then_ok _ _ _ c.in_ok-ranks.ensures ∙ (then_ok _ _ _ c.in_ok-classes.ensures ∙ (then_ok _ _ _ c.in_ok-products.ensures ∙ then_ok _ _ _ c.in_ok-cover.ensures)))))

pub read_covers-requires : goal.read_covers-requires
read_covers-requires c = space-valid c.args.version c.read_modulus.new.lines c.read_space.new.lines c.in_ok-space.space c.in_ok-space.ensures
