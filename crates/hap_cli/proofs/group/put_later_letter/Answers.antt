use Rattle.std.proofs.Common.{◌++◌, get_or, codes, pos, refl}
use Rattle.std.specs.Fmt.{signed_decimal}
use Rattle.hap_outside.proofs.CallerLemmas.{gathers_next, gathers_fail}
use Rattle.hap_cli.proofs.group.put_later_letter.Goals as goal

pub returns-in_err-put-clause-bytes : goal.returns-in_err-put-clause-bytes
returns-in_err-put-clause-bytes g c =
    gathers_fail _ _ _ _ (codes " ") (signed_decimal (get_or c.args.letters.now c.args.index (pos 0))) (codes " " ++ signed_decimal (get_or c.args.letters.now c.args.index (pos 0))) _ c.from_residual.result c.from_residual.ensures.0 c.in_err-put.ensures.bytes refl

pub returns-clause-bytes : goal.returns-clause-bytes
returns-clause-bytes g c =
    gathers_next _ _ _ _ _ _ (codes " ") (signed_decimal (get_or c.args.letters.now c.args.index (pos 0))) (codes " " ++ signed_decimal (get_or c.args.letters.now c.args.index (pos 0))) _ c.put_letter.result refl c.in_ok-put.ensures.bytes c.put_letter.ensures.bytes
