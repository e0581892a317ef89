use Rattle.std.proofs.Common.{◌++◌, ◌∷◌, [], append_assoc, refl, sym, ◌∙◌}
use Rattle.hap_outside.proofs.CallerLemmas.{gathers_next, gathers_fail, gathers_break}
use Rattle.certificates.specs.Written.{head_text, sides_text, listed_line}
use Rattle.certificates.proofs.LineLemmas.{listed-whole}
use Rattle.certificates.proofs.put.put_listed_line.Goals as goal

pub returns-in_err-put_head-clause-bytes : goal.returns-in_err-put_head-clause-bytes
returns-in_err-put_head-clause-bytes g c =
    gathers_fail _ _ _ _ (head_text c.args.kind c.args.numbers.now) ((sides_text c.args.left.now c.args.right.now) ++ (10 ∷ [])) (listed_line c.args.kind c.args.numbers.now c.args.left.now c.args.right.now) _ c.from_residual.result c.from_residual.ensures.0 c.in_err-put_head.ensures.bytes (sym (append_assoc (head_text c.args.kind c.args.numbers.now) (sides_text c.args.left.now c.args.right.now) (10 ∷ [])) ∙ listed-whole c.args.kind c.args.numbers.now c.args.left.now c.args.right.now)

pub returns-in_err-put_sides-clause-bytes : goal.returns-in_err-put_sides-clause-bytes
returns-in_err-put_sides-clause-bytes g c =
    gathers_break _ _ _ _ _ _ (head_text c.args.kind c.args.numbers.now) (sides_text c.args.left.now c.args.right.now) (10 ∷ []) (listed_line c.args.kind c.args.numbers.now c.args.left.now c.args.right.now) _ _ c.from_residual-in_err-put_sides.result c.in_ok-put_head.ensures.bytes c.from_residual-in_err-put_sides.ensures.0 c.in_err-put_sides.ensures.bytes (listed-whole c.args.kind c.args.numbers.now c.args.left.now c.args.right.now)

pub returns-clause-bytes : goal.returns-clause-bytes
returns-clause-bytes g c =
    gathers_next _ _ _ _ _ _ ((head_text c.args.kind c.args.numbers.now) ++ (sides_text c.args.left.now c.args.right.now)) (10 ∷ []) (listed_line c.args.kind c.args.numbers.now c.args.left.now c.args.right.now) _ c.put_text.result (listed-whole c.args.kind c.args.numbers.now c.args.left.now c.args.right.now) (gathers_next _ _ _ _ _ _ _ _ _ _ _ refl c.in_ok-put_head.ensures.bytes c.in_ok-put_sides.ensures.bytes) c.put_text.ensures.bytes
