use Rattle.std.proofs.Common.{◌++◌, ◌-◌, length, take, drop, get_or, pos}
use Rattle.std.specs.Fmt.{signed_decimal}
use Rattle.hap_cli.specs.GroupTexts.{word_text, later_letters}
use Rattle.hap_cli.proofs.Texts.{gathers_as, word-parts}
use Rattle.hap_cli.proofs.group.put_word.Goals as goal

pub returns-in-len1-up-clause-bytes : goal.returns-in-len1-up-clause-bytes
returns-in-len1-up-clause-bytes g c =
    gathers_as _ _ _ _ (signed_decimal (get_or c.args.word.now 0 (pos 0)) ++ later_letters (take (length c.args.word.now - 1) (drop 1 c.args.word.now))) (word_text c.args.word.now) c.put_letters.result
    (word-parts c.args.word.now (pos 0) c.in-len1-up.len_at_least) c.put_letters.ensures.bytes
