use Rattle.std.proofs.Common.{get_or, ◌∙◌}
use Rattle.space_parts.proofs.Adding.{member_at, places_fit, facets_made, room_left, no_facets, cell_fits, one_more, all_made}
use Rattle.space_parts.proofs.making.add_cells.Goals as goal

pub facets-requires-clause-first : goal.facets-requires-clause-first
facets-requires-clause-first c = (member_at c.args.space.now c.args.component c.args.dim c.args.own.now c.loop-cell.cell-index c.requires.own c.loop-cell-test.true).low

pub facets-requires-clause-last : goal.facets-requires-clause-last
facets-requires-clause-last c = (member_at c.args.space.now c.args.component c.args.dim c.args.own.now c.loop-cell.cell-index c.requires.own c.loop-cell-test.true).high

pub list_places-requires : goal.list_places-requires
list_places-requires c =
    places_fit c.args.space.now c.args.component c.args.dim c.args.own.now c.args.below.now c.facets.result.now c.loop-cell.cell-index c.requires.valid c.requires.own c.requires.below c.loop-cell-test.true c.facets.ensures.facets

pub add_cell-requires-clause-room : goal.add_cell-requires-clause-room
add_cell-requires-clause-room c =
    room_left c.args.space.now c.args.component c.args.dim c.args.own.now c.loop-cell.builder c.loop-cell.cell-index c.requires.limited c.requires.dim c.requires.own c.loop-cell-test.true c.loop-cell.invariant

pub add_cell-requires-clause-vertex : goal.add_cell-requires-clause-vertex
add_cell-requires-clause-vertex c e =
    let m = member_at c.args.space.now c.args.component c.args.dim c.args.own.now c.loop-cell.cell-index c.requires.own c.loop-cell-test.true in
    no_facets c.args.space.now c.args.component c.args.dim (get_or c.args.own.now c.loop-cell.cell-index 0) c.deref.result.now c.requires.valid m
    (c.deref.ensures.value
    ∙ (c.in_ok-list_places.ensures
    ∙ facets_made c.args.space.now c.args.component c.args.dim (get_or c.args.own.now c.loop-cell.cell-index 0) c.args.below.now c.facets.result.now c.requires.valid c.requires.regular c.same_component_is_a_path.ensures m c.requires.below c.facets.ensures.facets))
    e

pub add_cell-requires-clause-cell : goal.add_cell-requires-clause-cell
add_cell-requires-clause-cell c some =
    let m = member_at c.args.space.now c.args.component c.args.dim c.args.own.now c.loop-cell.cell-index c.requires.own c.loop-cell-test.true in
    cell_fits c.args.space.now c.args.component c.args.dim (get_or c.args.own.now c.loop-cell.cell-index 0) c.loop-cell.cell-index c.loop-cell.builder c.deref.result.now c.requires.valid c.requires.regular c.same_component_is_a_path.ensures m c.requires.dim some
    c.loop-cell.invariant
    (c.deref.ensures.value
    ∙ (c.in_ok-list_places.ensures
    ∙ facets_made c.args.space.now c.args.component c.args.dim (get_or c.args.own.now c.loop-cell.cell-index 0) c.args.below.now c.facets.result.now c.requires.valid c.requires.regular c.same_component_is_a_path.ensures m c.requires.below c.facets.ensures.facets))

pub loop-cell-preserved : goal.loop-cell-preserved
loop-cell-preserved c =
    let m = member_at c.args.space.now c.args.component c.args.dim c.args.own.now c.loop-cell.cell-index c.requires.own c.loop-cell-test.true in
    one_more c.args.space.now c.args.component c.args.dim c.loop-cell.cell-index c.args.own.now c.loop-cell.builder c.add_cell.new.builder c.deref.result.now c.requires.dim c.requires.own c.loop-cell-test.true c.loop-cell.invariant
    (c.deref.ensures.value
    ∙ (c.in_ok-list_places.ensures
    ∙ facets_made c.args.space.now c.args.component c.args.dim (get_or c.args.own.now c.loop-cell.cell-index 0) c.args.below.now c.facets.result.now c.requires.valid c.requires.regular c.same_component_is_a_path.ensures m c.requires.below c.facets.ensures.facets))
    c.in_ok-add_cell.ensures

pub returns : goal.returns
returns c = all_made c.args.space.now c.args.component c.args.dim c.loop-cell.cell-index c.args.own.now c.loop-cell.builder c.requires.dim c.requires.own c.loop-cell-test.false c.loop-cell.invariant
