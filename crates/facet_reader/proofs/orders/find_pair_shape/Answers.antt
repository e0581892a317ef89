use Rattle.std.proofs.Common.{◌<◌, ℕ, length, sym, ◌∙◌, arith}
use Rattle.gap_text.specs.Nest.{view}
use Rattle.facet_reader.specs.Orders.{pair_shape}
use Rattle.facet_reader.proofs.RowLemmas.{first-more, first-at}
use Rattle.facet_reader.proofs.orders.find_pair_shape.Goals as goal

pub returns-in-Some : goal.returns-in-Some
returns-in-Some c =
    let i : ℕ = c.loop-index.index in
    let lt : i < length c.args.items.now = omega (arith, c.len-index-end.ensures, c.loop-index-test.true) in
    sym (first-at pair_shape c.args.items.now i (view c.get.result.now) c.in-Some.place lt c.get.ensures c.loop-index.invariant (sym c.pair_shape.ensures ∙ c.in-Some.is))

pub loop-index-preserved : goal.loop-index-preserved
loop-index-preserved c =
    let i : ℕ = c.loop-index.index in
    let lt : i < length c.args.items.now = omega (arith, c.len-index-end.ensures, c.loop-index-test.true) in
    first-more pair_shape c.args.items.now i (view c.get.result.now) lt c.get.ensures c.loop-index.invariant (sym c.pair_shape.ensures ∙ c.in_default.is)
