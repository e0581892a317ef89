use Rattle.std.proofs.Common.{◌∙◌, ◌∷◌, ℕ, Bool, true, false, cond, List, Option, Some, None, Bor, sym, ap, option_map}
use Rattle.cert_lines.specs.Pieces.{pieces_left}
use Rattle.cert_lines.proofs.SpotLemmas.{spot-first, spot-later}
use Rattle.cert_lines.proofs.placed.spot_side.Goals as goal

pub returns-in-None : goal.returns-in-None
returns-in-None c =
    c.side_if.ensures
    ∙ (ap (λ (t : Bool). cond t (Some true) None) c.is_position.ensures
    ∙ spot-first c.args.word.now c.cut_slash.result.0.now (sym c.is_same.ensures ∙ c.if-is_same.false)
    (c.cut_slash.ensures ∙ ap (λ (o : Option (Bor (List ℕ))). c.cut_slash.result.0.now ∷ pieces_left 47 (option_map (λ s. s.now) o)) c.in-None.is))

pub returns-in-Some : goal.returns-in-Some
returns-in-Some c =
    c.side_if-in-Some.ensures
    ∙ (ap (λ (t : Bool). cond t (Some false) None) c.is_later.ensures
    ∙ spot-later c.args.word.now c.cut_slash.result.0.now c.in-Some.position.now (sym c.is_same.ensures ∙ c.if-is_same.false)
    (c.cut_slash.ensures ∙ ap (λ (o : Option (Bor (List ℕ))). c.cut_slash.result.0.now ∷ pieces_left 47 (option_map (λ s. s.now) o)) c.in-Some.is))
