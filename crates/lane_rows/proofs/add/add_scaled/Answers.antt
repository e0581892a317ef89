use Rattle.std.proofs.Common.{◌+◌, ◌%◌, ℕ, List, get_or, ap, sym, subst, ◌∙◌, arith}
use Rattle.lane_rows.specs.Lanes.{zip2}
use Rattle.lane_rows.specs.Vectors.{AreBelow}
use Rattle.lane_rows.proofs.Steps.{added-by_table, multiples_below}
use Rattle.lane_rows.proofs.add.add_scaled.Goals as goal

pub add_products-requires-clause-products : goal.add_products-requires-clause-products
add_products-requires-clause-products c = subst (AreBelow c.args.p) (sym c.multiples.ensures) (multiples_below c.args.p c.args.factor (omega arith))

pub returns-else-target-lt-SHORT : goal.returns-else-target-lt-SHORT
returns-else-target-lt-SHORT c =
    c.add_products.ensures
    ∙ (ap (λ (t : List ℕ). zip2 (λ (x y : ℕ). (x + get_or t y 0) % c.args.p) c.args.target.now c.args.source.now) c.multiples.ensures
    ∙ added-by_table c.args.p c.args.factor c.args.target.now c.args.source.now (omega arith) c.requires.source)
