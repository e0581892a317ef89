use Rattle.std.proofs.Common.{◌<◌, ◌-◌, ◌∙◌, get_or, arith}
use Rattle.face_poset.specs.Poset.{count}
use Rattle.space_parts.specs.Parts.{component_at}
use Rattle.space_parts.proofs.Numbers.{pushed, has_number}
use Rattle.space_parts.proofs.numbering.number_cells.Goals as goal

pub bounds-below-facets : goal.bounds-below-facets
bounds-below-facets c =
    let l : c.loop-index.index < count c.args.space.now c.args.dim = omega (arith, c.loop-index-test.true, c.cells-index-end.ensures.cells) in
    (has_number c.args.space.now c.args.dim c.loop-index.index c.args.below.now c.facets-facets.result.now c.facets-facets.ensures.valid c.requires.low l c.requires.below c.facets-facets.ensures.facets).within

pub loop-index-preserved : goal.loop-index-preserved
loop-index-preserved c =
    let l : c.loop-index.index < count c.args.space.now c.args.dim = omega (arith, c.loop-index-test.true, c.cells-index-end.ensures.cells) in
    let h = has_number c.args.space.now c.args.dim c.loop-index.index c.args.below.now c.facets-facets.result.now c.facets-facets.ensures.valid c.requires.low l c.requires.below c.facets-facets.ensures.facets in
    c.in_ok-push.ensures.items
    ∙ pushed (component_at c.args.space.now c.args.dim) c.loop-index.index c.loop-index.numbers.items (get_or c.args.below.now (get_or c.facets-facets.result.now 0 0 - 1) 0) c.loop-index.invariant h.number
