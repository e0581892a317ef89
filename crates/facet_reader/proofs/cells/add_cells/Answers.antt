use Rattle.std.proofs.Common.{◌-◌, map, take, get_or, ◌∙◌, arith}
use Rattle.facet_reader.specs.Places.{facets_at}
use Rattle.facet_reader.proofs.FacetNumbers.{start-is, held-one, cell-fits}
use Rattle.facet_reader.proofs.cells.add_cells.Goals as goal

pub loop-place-init : goal.loop-place-init
loop-place-init c = start-is c.args.builder.now (c.args.size - 1) (c.requires.empty (c.args.size - 1) (omega arith))

pub list_facets-requires-clause-held : goal.list_facets-requires-clause-held
list_facets-requires-clause-held c = held-one c.args.size c.args.below.now c.args.cells.now c.loop-place.place-index c.requires.held c.loop-place-test.true

pub add-requires-clause-cell : goal.add-requires-clause-cell
add-requires-clause-cell c =
    λ some. cell-fits c.args.size (get_or c.args.cells.now c.loop-place.place-index 0) c.args.below.now c.args.builder.now c.loop-place.builder (map (facets_at c.args.size c.args.below.now) (take c.loop-place.place-index c.args.cells.now)) c.deref.result.now
    c.requires.low c.requires.rises (held-one c.args.size c.args.below.now c.args.cells.now c.loop-place.place-index c.requires.held c.loop-place-test.true) c.loop-place.invariant c.requires.below (c.deref.ensures.value ∙ c.in_ok-list_facets.ensures)
