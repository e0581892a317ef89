use Rattle.std.proofs.Common.{◌++◌, get_or, pos, refl}
use Rattle.std.specs.Fmt.{signed_decimal}
use Rattle.hap_outside.proofs.CallerLemmas.{gathers_next, gathers_fail}
use Rattle.hap_cli.specs.GroupTexts.{later_letters}
use Rattle.hap_cli.proofs.group.put_letters.Goals as goal

pub returns-in_err-put_letter-clause-bytes : goal.returns-in_err-put_letter-clause-bytes
returns-in_err-put_letter-clause-bytes g c =
    gathers_fail _ _ _ _ (signed_decimal (get_or c.args.word.now 0 (pos 0))) (later_letters c.args.rest.now) (signed_decimal (get_or c.args.word.now 0 (pos 0)) ++ later_letters c.args.rest.now) _ c.from_residual.result c.from_residual.ensures.0 c.in_err-put_letter.ensures.bytes refl

pub returns-clause-bytes : goal.returns-clause-bytes
returns-clause-bytes g c =
    gathers_next _ _ _ _ _ _ (signed_decimal (get_or c.args.word.now 0 (pos 0))) (later_letters c.args.rest.now) (signed_decimal (get_or c.args.word.now 0 (pos 0)) ++ later_letters c.args.rest.now) _ c.put_later.result refl c.in_ok-put_letter.ensures.bytes c.put_later.ensures.bytes
