use Rattle.std.proofs.Common.{◌∙◌, sym, option_map}
use Rattle.cert_lines.specs.Pieces.{words_left}
use Rattle.cert_lines.proofs.KindLemmas.{kind-told, placed-told}
use Rattle.cert_lines.proofs.line.line_kind.Goals as goal

pub returns-in-Some : goal.returns-in-Some
returns-in-Some c =
    c.plain_kind.ensures
    ∙ kind-told c.args.version c.args.line.now c.cut_word.result.0.now (words_left (option_map (λ s. s.now) c.cut_word.result.1)) c.in-Some.kind c.cut_word.ensures.words (sym c.read_kind.ensures ∙ c.in-Some.is)

pub returns-in-None : goal.returns-in-None
returns-in-None c =
    c.placed_kind.ensures
    ∙ placed-told c.args.version c.args.line.now c.cut_word.result.0.now (words_left (option_map (λ s. s.now) c.cut_word.result.1)) c.cut_word.ensures.words (sym c.read_kind.ensures ∙ c.in-None.is)
