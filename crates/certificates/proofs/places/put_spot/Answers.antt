use Rattle.std.proofs.Common.{◌++◌, sym, ◌∙◌, ap, ℕ}
use Rattle.hap_outside.proofs.CallerLemmas.{gathers_next, gathers_fail}
use Rattle.std.proofs.lemmas.Bool.{false≢true}
use Rattle.sheet_tables.specs.Positions.{position_text}
use Rattle.certificates.specs.Placed.{spot_or_start_text}
use Rattle.certificates.specs.Cert.{spot_of}
use Rattle.certificates.specs.Written.{component_text}
use Rattle.certificates.proofs.PlaceLemmas.{spot-whole}
use Rattle.certificates.proofs.places.put_spot.Goals as goal

pub returns-in_err-put_component-clause-bytes : goal.returns-in_err-put_component-clause-bytes
returns-in_err-put_component-clause-bytes g c =
    gathers_fail _ _ _ _ (component_text c.component.result) (position_text c.args.spot.now.sheets c.args.spot.now.cells) (spot_or_start_text (spot_of c.args.spot.now)) _ c.from_residual.result c.from_residual.ensures.0 c.in_err-put_component.ensures.bytes (ap (λ (n : ℕ). component_text n ++ position_text c.args.spot.now.sheets c.args.spot.now.cells) c.component.ensures.component ∙ spot-whole c.args.spot.now (λ e. false≢true (sym c.if-is_start.false ∙ c.is_start.ensures.1 e)))

pub returns-clause-bytes : goal.returns-clause-bytes
returns-clause-bytes g c =
    gathers_next _ _ _ _ _ _ (component_text c.component.result) (position_text c.args.spot.now.sheets c.args.spot.now.cells) (spot_or_start_text (spot_of c.args.spot.now)) _ c.put_position.result (ap (λ (n : ℕ). component_text n ++ position_text c.args.spot.now.sheets c.args.spot.now.cells) c.component.ensures.component ∙ spot-whole c.args.spot.now (λ e. false≢true (sym c.if-is_start.false ∙ c.is_start.ensures.1 e))) c.in_ok-put_component.ensures.bytes c.put_position.ensures.bytes
