use Rattle.hap_outside.proofs.Gathering.{gathers_next, gathers_stop}
use Rattle.hap_outside.proofs.PieceTexts.{texts_first}
use Rattle.hap_outside.proofs.held.Held.+put.Goals as goal

pub returns-in-Ok-clause-bytes : goal.returns-in-Ok-clause-bytes
returns-in-Ok-clause-bytes g t c =
    gathers_next _ _ _ _ _ _ _ _ _ _ c.put.result (texts_first _ c.args.pieces.now c.in-len1-up.len_at_least) c.in-Ok.ensures.bytes c.put.ensures.bytes

pub returns-in-Err-clause-bytes : goal.returns-in-Err-clause-bytes
returns-in-Err-clause-bytes g t c =
    gathers_stop _ _ _ _ _ _ _ _ _ (texts_first _ c.args.pieces.now c.in-len1-up.len_at_least) c.in-Err.ensures.bytes
