use Rattle.std.proofs.Common.{◌∷◌, [], ◌∙◌, take, drop, get_or, ◌+◌}
use Rattle.hap_ends.specs.Refusals.{later_cells}
use Rattle.hap_outside.proofs.CallerLemmas.{gathers_next, gathers_break}
use Rattle.hap_ends.proofs.Spotting.{later-split, later-more}
use Rattle.hap_ends.proofs.spent.put_later.Goals as goal

pub returns-in_err-put-clause-bytes : goal.returns-in_err-put-clause-bytes
returns-in_err-put-clause-bytes g c =
    gathers_break _ _ _ _ _ _ (later_cells (take c.cells.cell-index c.args.cells.now)) (44 ∷ (48 + get_or c.args.cells.now c.cells.cell-index 0) ∷ [])
    (later_cells (drop (c.cells.cell-index + 1) c.args.cells.now)) (later_cells c.args.cells.now) _ _ c.from_residual.result
    c.cells.invariant.bytes c.from_residual.ensures.0 c.in_err-put.ensures.bytes (later-split c.args.cells.now c.cells.cell-index c.cells-test.true)

pub cells-preserved : goal.cells-preserved
cells-preserved g c = record {
  bytes = gathers_next _ _ _ _ _ _ _ _ _ _ _ (later-more c.args.cells.now c.cells.cell-index 0 c.cells-test.true) c.cells.invariant.bytes c.in_ok-put.ensures.bytes;
  still = c.in_ok-put.ensures.cause.kept ∙ c.cells.invariant.still;
}
