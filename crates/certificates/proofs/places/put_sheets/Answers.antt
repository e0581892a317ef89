use Rattle.std.proofs.Common.{◌++◌, ◌∷◌, [], append_assoc, refl, sym, ◌∙◌, decimal, codes}
use Rattle.hap_outside.proofs.CallerLemmas.{gathers_next, gathers_fail, gathers_break}
use Rattle.certificates.specs.Placed.{Sheets, spot_or_start_text}
use Rattle.certificates.specs.Forms.{placed}
use Rattle.certificates.specs.Cert.{spot_of}
use Rattle.certificates.specs.Texts.{line_bytes}
use Rattle.certificates.proofs.PlaceLemmas.{sheets-whole}
use Rattle.certificates.proofs.places.put_sheets.Goals as goal

pub returns-in_err-put_most-clause-bytes : goal.returns-in_err-put_most-clause-bytes
returns-in_err-put_most-clause-bytes g c =
    gathers_fail _ _ _ _ (codes "sheets " ++ (decimal c.args.sheets ++ codes " from ")) ((spot_or_start_text (spot_of c.args.from.now)) ++ (10 ∷ [])) (line_bytes (placed (Sheets c.args.sheets (spot_of c.args.from.now)))) _ c.from_residual.result c.from_residual.ensures.0 c.in_err-put_most.ensures.bytes (sym (append_assoc (codes "sheets " ++ (decimal c.args.sheets ++ codes " from ")) (spot_or_start_text (spot_of c.args.from.now)) (10 ∷ [])) ∙ sheets-whole c.args.sheets (spot_of c.args.from.now))

pub returns-in_err-put_spot-clause-bytes : goal.returns-in_err-put_spot-clause-bytes
returns-in_err-put_spot-clause-bytes g c =
    gathers_break _ _ _ _ _ _ (codes "sheets " ++ (decimal c.args.sheets ++ codes " from ")) (spot_or_start_text (spot_of c.args.from.now)) (10 ∷ []) (line_bytes (placed (Sheets c.args.sheets (spot_of c.args.from.now)))) _ _ c.from_residual-in_err-put_spot.result c.in_ok-put_most.ensures.bytes c.from_residual-in_err-put_spot.ensures.0 c.in_err-put_spot.ensures.bytes (sheets-whole c.args.sheets (spot_of c.args.from.now))

pub returns-clause-bytes : goal.returns-clause-bytes
returns-clause-bytes g c =
    gathers_next _ _ _ _ _ _ ((codes "sheets " ++ (decimal c.args.sheets ++ codes " from ")) ++ (spot_or_start_text (spot_of c.args.from.now))) (10 ∷ []) (line_bytes (placed (Sheets c.args.sheets (spot_of c.args.from.now)))) _ c.put_text.result (sheets-whole c.args.sheets (spot_of c.args.from.now)) (gathers_next _ _ _ _ _ _ _ _ _ _ _ refl c.in_ok-put_most.ensures.bytes c.in_ok-put_spot.ensures.bytes) c.put_text.ensures.bytes
