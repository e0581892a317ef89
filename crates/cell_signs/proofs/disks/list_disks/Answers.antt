use Rattle.std.proofs.Common.{ℕ, List, ◌+◌, filter, map, ap, sym, ◌∙◌}
use Rattle.face_poset.specs.Poset.{facets_of}
use Rattle.regular_check.specs.Cycle.{cycle}
use Rattle.cell_signs.specs.Along.{goes_back}
use Rattle.cell_signs.proofs.Listed.{maps_more}
use Rattle.cell_signs.proofs.disks.list_disks.Goals as goal

pub loop-index-preserved : goal.loop-index-preserved
loop-index-preserved c =
    let disk : ℕ = c.loop-index.index + 1 in
    let back = goes_back (cycle c.args.regular.now disk) in
    let edges = c.facets.ensures.facets ∙ ap (λ (space : List (List (List ℕ))). facets_of space 2 disk) c.space-space.ensures.same in
    let minus = c.in_ok-minus.ensures back (c.deref.ensures.value ∙ (c.in_ok-signs.ensures ∙ sym (ap (map back) edges))) ∙ ap (filter back) edges in
    c.in_ok-push.ensures.ok
    ∙ maps_more (λ cell. filter (goes_back (cycle c.args.regular.now cell)) (facets_of c.args.regular.now 2 cell)) c.loop-index.index c.loop-index.lists c.deref-in-loop-index.result.now c.loop-index.invariant (c.deref-in-loop-index.ensures.value ∙ minus)
