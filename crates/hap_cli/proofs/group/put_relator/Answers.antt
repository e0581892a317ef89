use Rattle.std.proofs.Common.{◌++◌, codes, append_assoc, refl}
use Rattle.hap_outside.proofs.CallerLemmas.{gathers_next, gathers_fail, gathers_break}
use Rattle.hap_cli.specs.GroupTexts.{relator_line, word_text}
use Rattle.hap_cli.proofs.group.put_relator.Goals as goal

pub returns-in_err-put-clause-bytes : goal.returns-in_err-put-clause-bytes
returns-in_err-put-clause-bytes g c =
    gathers_fail _ _ _ _ (codes "relator ") (word_text c.args.word.now ++ codes "\n") (relator_line c.args.word.now) _ c.from_residual.result c.from_residual.ensures.0 c.in_err-put.ensures.bytes refl

pub returns-in_err-put_word-clause-bytes : goal.returns-in_err-put_word-clause-bytes
returns-in_err-put_word-clause-bytes g c =
    gathers_break _ _ _ _ _ _ (codes "relator ") (word_text c.args.word.now) (codes "\n") (relator_line c.args.word.now) _ _ c.from_residual-in_err-put_word.result
    c.in_ok-put.ensures.bytes c.from_residual-in_err-put_word.ensures.0 c.in_err-put_word.ensures.bytes (append_assoc (codes "relator ") (word_text c.args.word.now) (codes "\n"))

pub returns-clause-bytes : goal.returns-clause-bytes
returns-clause-bytes g c =
    gathers_next _ _ _ _ _ _ (codes "relator " ++ word_text c.args.word.now) (codes "\n") (relator_line c.args.word.now) _ c.put-2.result
    (append_assoc (codes "relator ") (word_text c.args.word.now) (codes "\n")) (gathers_next _ _ _ _ _ _ _ _ _ _ _ refl c.in_ok-put.ensures.bytes c.in_ok-put_word.ensures.bytes) c.put-2.ensures.bytes
