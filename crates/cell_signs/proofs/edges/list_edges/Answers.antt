use Rattle.std.proofs.Common.{ℕ, List, [], ◌∷◌, ◌+◌, get_or, ap, ◌∙◌}
use Rattle.face_poset.specs.Poset.{facets_of}
use Rattle.sphere_collapses.specs.Spheres.{first_end}
use Rattle.cell_signs.proofs.Listed.{maps_more}
use Rattle.cell_signs.proofs.edges.list_edges.Goals as goal

pub loop-index-preserved : goal.loop-index-preserved
loop-index-preserved c =
    let first : List ℕ → List ℕ = λ ends. get_or ends 0 0 ∷ [] in
    let ends = c.facets-ends.ensures.facets ∙ ap (λ (space : List (List (List ℕ))). facets_of space 1 (c.loop-index.index + 1)) c.space-space.ensures.same in
    c.in_ok-push.ensures.ok ∙ maps_more (λ edge. first_end c.args.regular.now edge ∷ []) c.loop-index.index c.loop-index.lists (first c.facets-ends.result.now) c.loop-index.invariant (ap first ends)
