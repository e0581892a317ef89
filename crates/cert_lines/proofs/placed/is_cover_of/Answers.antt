use Rattle.std.proofs.Common.{◌∙◌, ◌∷◌, ℕ, List, Option, Bor, sym, ap, option_map}
use Rattle.cert_lines.specs.Pieces.{words_left}
use Rattle.cert_lines.specs.Kinds.{cover_stands}
use Rattle.cert_lines.proofs.PlacedWords.{cover-more}
use Rattle.cert_lines.proofs.placed.is_cover_of.Goals as goal

pub returns-in-Some : goal.returns-in-Some
returns-in-Some c =
    cover-more c.args.number.now c.args.table.now c.in-Some.field-0.now
    ∙ sym (ap (λ (o : Option (Bor (List ℕ))). cover_stands (c.args.number.now ∷ c.args.table.now ∷ words_left (option_map (λ s. s.now) o))) c.in-Some.is)
