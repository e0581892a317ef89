use Rattle.std.proofs.Common.{◌++◌, ◌∷◌, [], append_assoc, refl, sym, ◌∙◌}
use Rattle.hap_outside.proofs.CallerLemmas.{gathers_next, gathers_fail, gathers_break}
use Rattle.certificates.specs.Parts.{sparse_tokens}
use Rattle.certificates.specs.Written.{words_text, sides_text}
use Rattle.certificates.proofs.put.put_sides.Goals as goal

pub returns-in_err-put_side-clause-bytes : goal.returns-in_err-put_side-clause-bytes
returns-in_err-put_side-clause-bytes g c =
    gathers_fail _ _ _ _ (words_text (sparse_tokens c.args.left.now)) ((32 ∷ 124 ∷ []) ++ (words_text (sparse_tokens c.args.right.now))) (sides_text c.args.left.now c.args.right.now) _ c.from_residual.result c.from_residual.ensures.0 c.in_err-put_side.ensures.bytes (sym (append_assoc (words_text (sparse_tokens c.args.left.now)) (32 ∷ 124 ∷ []) (words_text (sparse_tokens c.args.right.now))) ∙ append_assoc (words_text (sparse_tokens c.args.left.now)) (32 ∷ 124 ∷ []) (words_text (sparse_tokens c.args.right.now)))

pub returns-in_err-put_token-clause-bytes : goal.returns-in_err-put_token-clause-bytes
returns-in_err-put_token-clause-bytes g c =
    gathers_break _ _ _ _ _ _ (words_text (sparse_tokens c.args.left.now)) (32 ∷ 124 ∷ []) (words_text (sparse_tokens c.args.right.now)) (sides_text c.args.left.now c.args.right.now) _ _ c.from_residual-in_err-put_token.result c.in_ok-put_side.ensures.bytes c.from_residual-in_err-put_token.ensures.0 c.in_err-put_token.ensures.bytes (append_assoc (words_text (sparse_tokens c.args.left.now)) (32 ∷ 124 ∷ []) (words_text (sparse_tokens c.args.right.now)))

pub returns-clause-bytes : goal.returns-clause-bytes
returns-clause-bytes g c =
    gathers_next _ _ _ _ _ _ ((words_text (sparse_tokens c.args.left.now)) ++ (32 ∷ 124 ∷ [])) (words_text (sparse_tokens c.args.right.now)) (sides_text c.args.left.now c.args.right.now) _ c.put_side-2.result (append_assoc (words_text (sparse_tokens c.args.left.now)) (32 ∷ 124 ∷ []) (words_text (sparse_tokens c.args.right.now))) (gathers_next _ _ _ _ _ _ _ _ _ _ _ refl c.in_ok-put_side.ensures.bytes c.in_ok-put_token.ensures.bytes) c.put_side-2.ensures.bytes
