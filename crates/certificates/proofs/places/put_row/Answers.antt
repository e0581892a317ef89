use Rattle.std.proofs.Common.{◌∷◌, [], take, drop, get_or, ◌-◌, decimal, length}
use Rattle.hap_outside.proofs.CallerLemmas.{gathers_next, gathers_fail}
use Rattle.certificates.specs.Placed.{row_text}
use Rattle.certificates.specs.Written.{behind_text}
use Rattle.certificates.proofs.PlaceLemmas.{row-parts}
use Rattle.certificates.proofs.places.put_row.Goals as goal

pub returns-in_err-put_first-clause-bytes : goal.returns-in_err-put_first-clause-bytes
returns-in_err-put_first-clause-bytes g c =
    gathers_fail _ _ _ _ (decimal (get_or c.args.cells.now 0 0)) (behind_text (44 ∷ []) (take (length c.args.cells.now - 1) (drop 1 c.args.cells.now))) (row_text c.args.cells.now) _ c.from_residual.result c.from_residual.ensures.0 c.in_err-put_first.ensures.bytes (row-parts c.args.cells.now c.requires)

pub returns-clause-bytes : goal.returns-clause-bytes
returns-clause-bytes g c =
    gathers_next _ _ _ _ _ _ (decimal (get_or c.args.cells.now 0 0)) (behind_text (44 ∷ []) (take (length c.args.cells.now - 1) (drop 1 c.args.cells.now))) (row_text c.args.cells.now) _ c.put_behind.result (row-parts c.args.cells.now c.requires) c.in_ok-put_first.ensures.bytes c.put_behind.ensures.bytes
