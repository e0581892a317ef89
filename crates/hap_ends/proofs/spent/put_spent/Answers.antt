use Rattle.std.proofs.Common.{◌++◌, List, ℕ, codes, append_assoc, refl, sym, ap, ◌∙◌}
use Rattle.sheet_tables.specs.Positions.{position_text}
use Rattle.hap_ends.specs.Refusals.{spent_front, spent_line}
use Rattle.hap_outside.proofs.CallerLemmas.{gathers_next, gathers_fail, gathers_break}
use Rattle.hap_ends.proofs.Spotting.{line_parts}
use Rattle.hap_ends.proofs.spent.put_spent.Goals as goal

pub returns-in_err-put_front-clause-bytes : goal.returns-in_err-put_front-clause-bytes
returns-in_err-put_front-clause-bytes g c =
    let place : List ℕ = position_text c.args.spot.now.sheets c.args.spot.now.cells in
    gathers_fail _ _ _ _ (spent_front c.component.result) (place ++ codes "\n") (spent_line c.args.spot.now) _ c.from_residual.result c.from_residual.ensures.0 c.in_err-put_front.ensures.bytes
    (sym (append_assoc (spent_front c.component.result) place (codes "\n")) ∙ line_parts c.args.spot.now c.component.result place c.component.ensures.component refl)

pub returns-in_err-put_position-clause-bytes : goal.returns-in_err-put_position-clause-bytes
returns-in_err-put_position-clause-bytes g c =
    let place : List ℕ = position_text c.position.result.now.sheets c.position.result.now.cells in
    gathers_break _ _ _ _ _ _ (spent_front c.component.result) place (codes "\n") (spent_line c.args.spot.now) _ _ c.from_residual-in_err-put_position.result
    c.in_ok-put_front.ensures.bytes c.from_residual-in_err-put_position.ensures.0 c.in_err-put_position.ensures.bytes
    (line_parts c.args.spot.now c.component.result place c.component.ensures.component (ap (λ p. position_text p.sheets p.cells) c.position.ensures))

pub returns-clause-bytes : goal.returns-clause-bytes
returns-clause-bytes g c =
    let place : List ℕ = position_text c.position.result.now.sheets c.position.result.now.cells in
    gathers_next _ _ _ _ _ _ (spent_front c.component.result ++ place) (codes "\n") (spent_line c.args.spot.now) _ c.put.result
    (line_parts c.args.spot.now c.component.result place c.component.ensures.component (ap (λ p. position_text p.sheets p.cells) c.position.ensures))
    (gathers_next _ _ _ _ _ _ _ _ _ _ _ refl c.in_ok-put_front.ensures.bytes c.in_ok-put_position.ensures.bytes) c.put.ensures.bytes
