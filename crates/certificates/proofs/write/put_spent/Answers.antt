use Rattle.std.proofs.Common.{◌++◌, append_assoc, refl, sym, ◌∙◌, codes, Some}
use Rattle.hap_outside.proofs.CallerLemmas.{gathers_next, gathers_fail, gathers_break}
use Rattle.certificates.specs.Placed.{spot_or_start_text}
use Rattle.certificates.specs.Cert.{spot_of}
use Rattle.certificates.specs.Texts.{lines_text, back_lines}
use Rattle.certificates.proofs.PlaceLemmas.{spent-whole}
use Rattle.certificates.proofs.write.put_spent.Goals as goal

pub returns-in_err-put_text-clause-bytes : goal.returns-in_err-put_text-clause-bytes
returns-in_err-put_text-clause-bytes g c =
    gathers_fail _ _ _ _ (codes "spent ") ((spot_or_start_text (spot_of c.args.spot.now)) ++ (codes "\nend\n")) (lines_text (back_lines (Some (Some (spot_of c.args.spot.now))))) _ c.from_residual.result c.from_residual.ensures.0 c.in_err-put_text.ensures.bytes (sym (append_assoc (codes "spent ") (spot_or_start_text (spot_of c.args.spot.now)) (codes "\nend\n")) ∙ spent-whole (spot_of c.args.spot.now))

pub returns-in_err-put_spot-clause-bytes : goal.returns-in_err-put_spot-clause-bytes
returns-in_err-put_spot-clause-bytes g c =
    gathers_break _ _ _ _ _ _ (codes "spent ") (spot_or_start_text (spot_of c.args.spot.now)) (codes "\nend\n") (lines_text (back_lines (Some (Some (spot_of c.args.spot.now))))) _ _ c.from_residual-in_err-put_spot.result c.in_ok-put_text.ensures.bytes c.from_residual-in_err-put_spot.ensures.0 c.in_err-put_spot.ensures.bytes (spent-whole (spot_of c.args.spot.now))

pub returns-clause-bytes : goal.returns-clause-bytes
returns-clause-bytes g c =
    gathers_next _ _ _ _ _ _ ((codes "spent ") ++ (spot_or_start_text (spot_of c.args.spot.now))) (codes "\nend\n") (lines_text (back_lines (Some (Some (spot_of c.args.spot.now))))) _ c.put_text-2.result (spent-whole (spot_of c.args.spot.now)) (gathers_next _ _ _ _ _ _ _ _ _ _ _ refl c.in_ok-put_text.ensures.bytes c.in_ok-put_spot.ensures.bytes) c.put_text-2.ensures.bytes
