use Rattle.face_poset.specs.Poset.{facets_of}
use Rattle.sphere_collapses.proofs.Lists.{gathered-more, gathered_all}
use Rattle.sphere_collapses.proofs.faces.facets_below.Goals as goal

pub loop-cell-preserved : goal.loop-cell-preserved
loop-cell-preserved c =
    gathered-more (facets_of c.args.space.now c.args.dim) c.args.cells.now c.loop-cell.cell-index c.loop-cell.facets.items c.extend_from_slice.new.self.items c.facets.result.now c.loop-cell-test.true c.loop-cell.invariant c.facets.ensures.facets
    c.in_ok-extend_from_slice.ensures.items

pub returns : goal.returns
returns c =
    gathered_all c.args.space.now c.args.dim c.args.cells.now c.loop-cell.cell-index c.loop-cell.facets.items c.sort_once.new.numbers.items c.requires.valid c.requires.low c.requires.cells c.loop-cell-test.false c.loop-cell.invariant
    c.sort_once.ensures.rises c.sort_once.ensures.keeps c.sort_once.ensures.adds_none
