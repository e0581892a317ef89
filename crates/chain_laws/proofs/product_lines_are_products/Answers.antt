use Rattle.chain_laws.proofs.LineLemmas.{product_lines_are_products}
use Rattle.chain_laws.proofs.product_lines_are_products.Goals as goal

pub returns : goal.returns
returns g c = product_lines_are_products g.F.Field.ops g.met.F.Field.laws
