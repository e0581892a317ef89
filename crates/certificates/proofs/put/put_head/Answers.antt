use Rattle.std.proofs.Common.{refl}
use Rattle.hap_outside.proofs.CallerLemmas.{gathers_next, gathers_fail}
use Rattle.certificates.specs.Parts.{kind_text}
use Rattle.certificates.specs.Written.{numbers_text, head_text}
use Rattle.certificates.proofs.put.put_head.Goals as goal

pub returns-in_err-put_word-clause-bytes : goal.returns-in_err-put_word-clause-bytes
returns-in_err-put_word-clause-bytes g c =
    gathers_fail _ _ _ _ (kind_text c.args.kind) (numbers_text c.args.numbers.now) (head_text c.args.kind c.args.numbers.now) _ c.from_residual.result c.from_residual.ensures.0 c.in_err-put_word.ensures.bytes (refl)

pub returns-clause-bytes : goal.returns-clause-bytes
returns-clause-bytes g c =
    gathers_next _ _ _ _ _ _ (kind_text c.args.kind) (numbers_text c.args.numbers.now) (head_text c.args.kind c.args.numbers.now) _ c.put_numbers.result (refl) c.in_ok-put_word.ensures.bytes c.put_numbers.ensures.bytes
