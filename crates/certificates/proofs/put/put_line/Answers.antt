use Rattle.std.proofs.Common.{◌∷◌, []}
use Rattle.hap_outside.proofs.CallerLemmas.{gathers_next, gathers_fail}
use Rattle.certificates.specs.Written.{head_text, numbered_line}
use Rattle.certificates.proofs.LineLemmas.{numbered-whole}
use Rattle.certificates.proofs.put.put_line.Goals as goal

pub returns-in_err-put_head-clause-bytes : goal.returns-in_err-put_head-clause-bytes
returns-in_err-put_head-clause-bytes g c =
    gathers_fail _ _ _ _ (head_text c.args.kind c.args.numbers.now) (10 ∷ []) (numbered_line c.args.kind c.args.numbers.now) _ c.from_residual.result c.from_residual.ensures.0 c.in_err-put_head.ensures.bytes (numbered-whole c.args.kind c.args.numbers.now)

pub returns-clause-bytes : goal.returns-clause-bytes
returns-clause-bytes g c =
    gathers_next _ _ _ _ _ _ (head_text c.args.kind c.args.numbers.now) (10 ∷ []) (numbered_line c.args.kind c.args.numbers.now) _ c.put_text.result (numbered-whole c.args.kind c.args.numbers.now) c.in_ok-put_head.ensures.bytes c.put_text.ensures.bytes
