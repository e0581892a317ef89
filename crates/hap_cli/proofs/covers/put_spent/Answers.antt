use Rattle.std.proofs.Common.{◌++◌, codes, append_assoc, refl}
use Rattle.hap_outside.proofs.CallerLemmas.{gathers_next, gathers_fail, gathers_break}
use Rattle.std.specs.declared.option.Option.TheVariants.{Some}
use Rattle.cover_listing.specs.Listings.{spot_at}
use Rattle.hap_cli.specs.CoverTexts.{ending_text, spot_words}
use Rattle.hap_cli.proofs.covers.put_spent.Goals as goal

pub returns-in_err-put-clause-bytes : goal.returns-in_err-put-clause-bytes
returns-in_err-put-clause-bytes g c =
    gathers_fail _ _ _ _ (codes "spent ") (spot_words (spot_at c.args.spot.now) ++ codes "\n") (ending_text (Some (spot_at c.args.spot.now))) _ c.from_residual.result c.from_residual.ensures.0 c.in_err-put.ensures.bytes refl

pub returns-in_err-put_spot-clause-bytes : goal.returns-in_err-put_spot-clause-bytes
returns-in_err-put_spot-clause-bytes g c =
    gathers_break _ _ _ _ _ _ (codes "spent ") (spot_words (spot_at c.args.spot.now)) (codes "\n") (ending_text (Some (spot_at c.args.spot.now))) _ _ c.from_residual-in_err-put_spot.result
    c.in_ok-put.ensures.bytes c.from_residual-in_err-put_spot.ensures.0 c.in_err-put_spot.ensures.bytes (append_assoc (codes "spent ") (spot_words (spot_at c.args.spot.now)) (codes "\n"))

pub returns-clause-bytes : goal.returns-clause-bytes
returns-clause-bytes g c =
    gathers_next _ _ _ _ _ _ (codes "spent " ++ spot_words (spot_at c.args.spot.now)) (codes "\n") (ending_text (Some (spot_at c.args.spot.now))) _ c.put-2.result
    (append_assoc (codes "spent ") (spot_words (spot_at c.args.spot.now)) (codes "\n")) (gathers_next _ _ _ _ _ _ _ _ _ _ _ refl c.in_ok-put.ensures.bytes c.in_ok-put_spot.ensures.bytes) c.put-2.ensures.bytes
