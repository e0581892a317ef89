use Rattle.std.proofs.Common.{length}
use Rattle.hap_outside.proofs.entries.+find.Given as goal

abbrev pub decreases-find : goal.decreases-find
decreases-find l = length l.entries.now
