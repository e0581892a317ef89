use Rattle.std.proofs.Common.{append-nil}
use Rattle.hap_outside.proofs.CallerLemmas.{writes_all_put, writes_some_put}
use Rattle.hap_cli.proofs.cover.write_cover_front.Goals as goal

pub returns-in-Ok-clause-bytes : goal.returns-in-Ok-clause-bytes
returns-in-Ok-clause-bytes g c =
    writes_all_put _ _ _ _ _ _ _ c.finish.result c.new-held.ensures c.in-Ok.ensures.bytes c.finish.ensures.bytes

pub returns-in-Err-clause-bytes : goal.returns-in-Err-clause-bytes
returns-in-Err-clause-bytes g c =
    writes_some_put _ _ _ _ _ _ _ _ _ c.new-held.ensures (append-nil _) c.in-Err.ensures.bytes
