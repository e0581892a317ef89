use Rattle.std.proofs.Common.{length}
use Rattle.hap_outside.proofs.held.Held.+put.Given as goal

abbrev pub decreases-put : goal.decreases-put
decreases-put g l = length l.pieces.now
