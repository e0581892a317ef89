use Rattle.std.proofs.Common.{◌∙◌, ap}
use Rattle.clap.specs.Words.{first_of, found_of, rows_of}
use Rattle.clap.proofs.WalkLemmas.{first_value-rows}
use Rattle.hap_words.proofs.reader.text_under.Goals as goal

pub returns : goal.returns
returns c =
    c.get_str.ensures ∙ first_value-rows (found_of c.args.matches.now) c.option_word.result.now
    ∙ ap (λ word. first_of word (rows_of (found_of c.args.matches.now))) c.option_word.ensures
