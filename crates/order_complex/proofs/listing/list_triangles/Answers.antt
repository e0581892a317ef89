use Rattle.std.proofs.Common.{◌∷◌, ◌++◌, [], ℕ, List, map, get_or, refl, ap, ◌∙◌, arith}
use Rattle.order_complex.specs.Listing.{extensions}
use Rattle.order_complex.proofs.Steps.{flat_map_more}
use Rattle.order_complex.proofs.listing.list_triangles.Goals as goal

pub loop-index-preserved : goal.loop-index-preserved
loop-index-preserved c =
    flat_map_more (extensions c.args.uppers.now) c.args.edges.now c.loop-index.index [] (get_or c.args.edges.now c.loop-index.index []) c.loop-index.triangles.items c.push_triangles.new.triangles.items
    (omega arith) refl c.loop-index.invariant
    (c.in_ok-push_triangles.ensures ∙ ap (λ (above : List ℕ). c.loop-index.triangles.items ++ map (λ upper. get_or c.args.edges.now c.loop-index.index [] ++ upper ∷ []) above) c.get.ensures)
