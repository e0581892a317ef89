use Rattle.std.proofs.Common.{◌∷◌, [], refl, length}
use Rattle.hap_outside.proofs.CallerLemmas.{gathers_next, gathers_fail}
use Rattle.std.specs.List.{flat_map}
use Rattle.certificates.specs.declared.kind.Kind.TheVariants as kind
use Rattle.certificates.specs.Written.{numbered_line, product_text, products_text}
use Rattle.certificates.proofs.front.put_products.Goals as goal

pub returns-in_err-put_products_head-clause-bytes : goal.returns-in_err-put_products_head-clause-bytes
returns-in_err-put_products_head-clause-bytes g c =
    gathers_fail _ _ _ _ (numbered_line kind.Products (length c.args.products.now ∷ [])) (flat_map product_text c.args.products.now) (products_text c.args.products.now) _ c.from_residual.result c.from_residual.ensures.0 c.in_err-put_products_head.ensures.bytes (refl)

pub returns-clause-bytes : goal.returns-clause-bytes
returns-clause-bytes g c =
    gathers_next _ _ _ _ _ _ (numbered_line kind.Products (length c.args.products.now ∷ [])) (flat_map product_text c.args.products.now) (products_text c.args.products.now) _ c.put_each_product.result (refl) c.in_ok-put_products_head.ensures.bytes c.put_each_product.ensures.bytes
