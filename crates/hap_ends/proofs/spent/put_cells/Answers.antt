use Rattle.std.proofs.Common.{◌∷◌, [], ◌+◌, refl}
use Rattle.hap_ends.specs.Refusals.{later_cells}
use Rattle.hap_outside.proofs.CallerLemmas.{gathers_next, gathers_fail}
use Rattle.hap_ends.proofs.spent.put_cells.Goals as goal

pub returns-in_err-put-clause-bytes : goal.returns-in_err-put-clause-bytes
returns-in_err-put-clause-bytes g c =
    gathers_fail _ _ _ _ ((48 + c.args.first) ∷ []) (later_cells c.args.rest.now) ((48 + c.args.first) ∷ later_cells c.args.rest.now) _ c.from_residual.result c.from_residual.ensures.0 c.in_err-put.ensures.bytes refl

pub returns-clause-bytes : goal.returns-clause-bytes
returns-clause-bytes g c =
    gathers_next _ _ _ _ _ _ ((48 + c.args.first) ∷ []) (later_cells c.args.rest.now) ((48 + c.args.first) ∷ later_cells c.args.rest.now) _ c.put_later.result refl c.in_ok-put.ensures.bytes c.put_later.ensures.bytes
