use Rattle.std.proofs.Common.{◌∷◌, ◌++◌, [], ℕ, List, map, get_or, refl, ap, ◌∙◌, arith}
use Rattle.order_complex.specs.Listing.{extensions}
use Rattle.order_complex.proofs.Steps.{flat_map_more}
use Rattle.order_complex.proofs.listing.list_edges.Goals as goal

pub loop-index-preserved : goal.loop-index-preserved
loop-index-preserved c =
    flat_map_more (extensions c.args.uppers.now) c.args.points.now c.loop-index.index [] (get_or c.args.points.now c.loop-index.index []) c.loop-index.edges.items c.push_edges.new.edges.items
    (omega arith) refl c.loop-index.invariant
    (c.in_ok-push_edges.ensures ∙ ap (λ (above : List ℕ). c.loop-index.edges.items ++ map (λ upper. get_or c.args.points.now c.loop-index.index [] ++ upper ∷ []) above) c.get.ensures)
