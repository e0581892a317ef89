use Rattle.std.proofs.Common.{◌++◌, ◌∷◌, [], ◌∙◌, take, drop, get_or, ◌+◌, decimal}
use Rattle.hap_outside.proofs.CallerLemmas.{gathers_next, gathers_break}
use Rattle.certificates.specs.Written.{behind_text}
use Rattle.certificates.proofs.ListLemmas.{flat-more, flat-split}
use Rattle.certificates.proofs.places.put_behind.Goals as goal

pub returns-in_err-put_cell-clause-bytes : goal.returns-in_err-put_cell-clause-bytes
returns-in_err-put_cell-clause-bytes g c =
    gathers_break _ _ _ _ _ _ (behind_text (44 ∷ []) (take c.loop-cell.cell-index c.args.cells.now)) ((44 ∷ []) ++ decimal (get_or c.args.cells.now c.loop-cell.cell-index 0)) (behind_text (44 ∷ []) (drop (c.loop-cell.cell-index + 1) c.args.cells.now)) (behind_text (44 ∷ []) c.args.cells.now) _ _ c.from_residual.result
    c.loop-cell.invariant.bytes c.from_residual.ensures.0 c.in_err-put_cell.ensures.bytes (flat-split (λ cell. (44 ∷ []) ++ decimal cell) c.args.cells.now c.loop-cell.cell-index 0 c.loop-cell-test.true)

pub loop-cell-preserved : goal.loop-cell-preserved
loop-cell-preserved g c = record {
  bytes = gathers_next _ _ _ _ _ _ _ _ _ _ _ (flat-more (λ cell. (44 ∷ []) ++ decimal cell) c.args.cells.now c.loop-cell.cell-index 0 c.loop-cell-test.true) c.loop-cell.invariant.bytes c.in_ok-put_cell.ensures.bytes;
  still = c.in_ok-put_cell.ensures.cause.kept ∙ c.loop-cell.invariant.still;
}
