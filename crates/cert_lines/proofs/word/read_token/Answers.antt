use Rattle.std.proofs.Common.{◌∙◌, sym, ap}
use Rattle.certificates.specs.Tokens.{number_or_sign}
use Rattle.cert_lines.proofs.CutLemmas.{token-whole, token-cut}
use Rattle.cert_lines.proofs.word.read_token.Goals as goal

pub returns-in-Some-read_number : goal.returns-in-Some-read_number
returns-in-Some-read_number c =
    sym (token-whole c.args.word.now (sym c.in-None.ensures) ∙ ap (number_or_sign c.args.word.now) (sym c.in-Some-read_number.ensures))

pub returns-in-None-read_number : goal.returns-in-None-read_number
returns-in-None-read_number c =
    c.read_sign.ensures ∙ sym (token-whole c.args.word.now (sym c.in-None.ensures) ∙ ap (number_or_sign c.args.word.now) (sym c.in-None-read_number.ensures))

pub returns-in-Some : goal.returns-in-Some
returns-in-Some c = c.read_entry.ensures ∙ sym (token-cut c.args.word.now c.in-Some.colon (sym c.in-Some.ensures))
