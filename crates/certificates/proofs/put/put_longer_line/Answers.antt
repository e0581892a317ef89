use Rattle.std.proofs.Common.{◌++◌, ◌∷◌, [], append_assoc, refl, sym, ◌∙◌}
use Rattle.hap_outside.proofs.CallerLemmas.{gathers_next, gathers_fail, gathers_break}
use Rattle.certificates.specs.Written.{head_text, numbers_text, numbered_line}
use Rattle.certificates.proofs.LineLemmas.{longer-whole}
use Rattle.certificates.proofs.put.put_longer_line.Goals as goal

pub returns-in_err-put_head-clause-bytes : goal.returns-in_err-put_head-clause-bytes
returns-in_err-put_head-clause-bytes g c =
    gathers_fail _ _ _ _ (head_text c.args.kind (c.args.first ∷ [])) ((numbers_text c.args.numbers.now) ++ (10 ∷ [])) (numbered_line c.args.kind (c.args.first ∷ c.args.numbers.now)) _ c.from_residual.result c.from_residual.ensures.0 c.in_err-put_head.ensures.bytes (sym (append_assoc (head_text c.args.kind (c.args.first ∷ [])) (numbers_text c.args.numbers.now) (10 ∷ [])) ∙ longer-whole c.args.kind c.args.first c.args.numbers.now)

pub returns-in_err-put_numbers-clause-bytes : goal.returns-in_err-put_numbers-clause-bytes
returns-in_err-put_numbers-clause-bytes g c =
    gathers_break _ _ _ _ _ _ (head_text c.args.kind (c.args.first ∷ [])) (numbers_text c.args.numbers.now) (10 ∷ []) (numbered_line c.args.kind (c.args.first ∷ c.args.numbers.now)) _ _ c.from_residual-in_err-put_numbers.result c.in_ok-put_head.ensures.bytes c.from_residual-in_err-put_numbers.ensures.0 c.in_err-put_numbers.ensures.bytes (longer-whole c.args.kind c.args.first c.args.numbers.now)

pub returns-clause-bytes : goal.returns-clause-bytes
returns-clause-bytes g c =
    gathers_next _ _ _ _ _ _ ((head_text c.args.kind (c.args.first ∷ [])) ++ (numbers_text c.args.numbers.now)) (10 ∷ []) (numbered_line c.args.kind (c.args.first ∷ c.args.numbers.now)) _ c.put_text.result (longer-whole c.args.kind c.args.first c.args.numbers.now) (gathers_next _ _ _ _ _ _ _ _ _ _ _ refl c.in_ok-put_head.ensures.bytes c.in_ok-put_numbers.ensures.bytes) c.put_text.ensures.bytes
