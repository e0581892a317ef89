use Rattle.std.proofs.Common.{◌∙◌, ◌∷◌, ℕ, List, Option, Bor, sym, ap, option_map}
use Rattle.cert_lines.specs.Pieces.{words_left}
use Rattle.cert_lines.specs.Kinds.{spent_stands}
use Rattle.cert_lines.proofs.PlacedWords.{spent-more}
use Rattle.cert_lines.proofs.placed.is_spent_of.Goals as goal

pub returns-in-Some : goal.returns-in-Some
returns-in-Some c =
    spent-more c.args.version c.args.spot.now c.in-Some.field-0.now
    ∙ sym (ap (λ (o : Option (Bor (List ℕ))). spent_stands c.args.version (c.args.spot.now ∷ words_left (option_map (λ s. s.now) o))) c.in-Some.is)
