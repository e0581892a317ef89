use Rattle.std.proofs.Common.{◌∷◌, ◌++◌, [], ℕ, List, map, get_or, refl, ap, ◌∙◌, arith}
use Rattle.order_complex.specs.Listing.{extensions}
use Rattle.order_complex.proofs.Steps.{flat_map_more}
use Rattle.order_complex.proofs.listing.list_tetrahedra.Goals as goal

pub loop-index-preserved : goal.loop-index-preserved
loop-index-preserved c =
    flat_map_more (extensions c.args.uppers.now) c.args.triangles.now c.loop-index.index [] (get_or c.args.triangles.now c.loop-index.index []) c.loop-index.tetrahedra.items c.push_tetrahedra.new.tetrahedra.items
    (omega arith) refl c.loop-index.invariant
    (c.in_ok-push_tetrahedra.ensures ∙ ap (λ (above : List ℕ). c.loop-index.tetrahedra.items ++ map (λ upper. get_or c.args.triangles.now c.loop-index.index [] ++ upper ∷ []) above) c.get.ensures)
