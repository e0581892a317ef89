use Rattle.std.proofs.Common.{◌++◌, ◌∷◌, [], decimal}
use Rattle.hap_outside.proofs.CallerLemmas.{gathers_next, gathers_fail}
use Rattle.sheet_tables.specs.Positions.{position_text}
use Rattle.certificates.specs.Placed.{row_text}
use Rattle.certificates.proofs.PlaceLemmas.{position-parts}
use Rattle.certificates.proofs.places.put_position.Goals as goal

pub returns-in_err-put_position_head-clause-bytes : goal.returns-in_err-put_position_head-clause-bytes
returns-in_err-put_position_head-clause-bytes g c =
    gathers_fail _ _ _ _ (decimal c.args.spot.now.sheets ++ 58 ∷ []) (row_text c.args.spot.now.cells) (position_text c.args.spot.now.sheets c.args.spot.now.cells) _ c.from_residual.result c.from_residual.ensures.0 c.in_err-put_position_head.ensures.bytes (position-parts c.args.spot.now.sheets c.args.spot.now.cells c.requires)

pub returns-clause-bytes : goal.returns-clause-bytes
returns-clause-bytes g c =
    gathers_next _ _ _ _ _ _ (decimal c.args.spot.now.sheets ++ 58 ∷ []) (row_text c.args.spot.now.cells) (position_text c.args.spot.now.sheets c.args.spot.now.cells) _ c.put_position_cells.result (position-parts c.args.spot.now.sheets c.args.spot.now.cells c.requires) c.in_ok-put_position_head.ensures.bytes c.put_position_cells.ensures.bytes
