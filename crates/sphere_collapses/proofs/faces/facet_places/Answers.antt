use Rattle.std.proofs.Common.{◌+◌, ℕ, List, [], ◌∷◌, ◌++◌, take, sym, ap, ◌∙◌, subst, All, Contains}
use Rattle.sphere_collapses.specs.Places.{AreFacetPlaces}
use Rattle.sphere_collapses.proofs.Lists.{facet-places-begun, facet-places-more, facet_places_all}
use Rattle.sphere_collapses.proofs.faces.facet_places.Goals as goal

pub loop-cell-init : goal.loop-cell-init
loop-cell-init c = facet-places-begun c.args.space.now c.args.dim c.args.sorted.now c.args.cells.now c.new-lists.result c.new-lists.ensures

pub list_places-requires-clause-there : goal.list_places-requires-clause-there
list_places-requires-clause-there c = subst (All (Contains c.args.sorted.now)) (sym c.facets.ensures.facets) (c.requires.there c.loop-cell.cell-index 0 c.loop-cell-test.true)

pub loop-cell-preserved : goal.loop-cell-preserved
loop-cell-preserved c =
    subst (AreFacetPlaces c.args.space.now c.args.dim c.args.sorted.now (take (c.loop-cell.cell-index + 1) c.args.cells.now)) (sym (c.in_ok-push.ensures.ok ∙ ap (λ (ps : List ℕ). c.loop-cell.lists ++ ps ∷ []) c.deref.ensures.value))
    (facet-places-more c.args.space.now c.args.dim c.args.sorted.now c.args.cells.now c.loop-cell.lists c.loop-cell.cell-index c.list_places.new.places.items c.facets.result.now c.loop-cell-test.true c.loop-cell.invariant c.facets.ensures.facets c.in_ok-list_places.ensures)

pub returns : goal.returns
returns c = facet_places_all c.args.space.now c.args.dim c.args.sorted.now c.args.cells.now c.loop-cell.lists c.loop-cell.cell-index c.loop-cell-test.false c.loop-cell.invariant
