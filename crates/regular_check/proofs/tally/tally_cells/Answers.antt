use Rattle.std.proofs.Common.{ℕ, List, get_or, subst}
use Rattle.face_poset.specs.Poset.{count}
use Rattle.regular_check.specs.Tally.{AllGain}
use Rattle.regular_check.proofs.Tallies.{tally-modest, tally-more}
use Rattle.regular_check.proofs.tally.tally_cells.Goals as goal

pub add_cell-requires-clause-modest : goal.add_cell-requires-clause-modest
add_cell-requires-clause-modest c =
    tally-modest c.args.space.now c.args.dim (count c.args.space.now c.args.dim) c.args.cells.now c.loop-cell.cell-index c.loop-cell.tallies c.requires.cells c.requires.few c.loop-cell-test.true c.loop-cell.invariant

pub loop-cell-preserved : goal.loop-cell-preserved
loop-cell-preserved c =
    tally-more c.args.space.now c.args.dim c.args.cells.now c.loop-cell.cell-index c.loop-cell.tallies c.add_cell.new.tallies c.loop-cell-test.true c.add_cell.auto.tallies c.loop-cell.invariant
    (subst (λ (fs : List ℕ). AllGain fs (get_or c.args.cells.now c.loop-cell.cell-index 0) c.loop-cell.tallies c.add_cell.new.tallies) c.facets.ensures.facets c.add_cell.ensures)
