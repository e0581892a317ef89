use Rattle.std.proofs.Common.{◌≡◌}
use Rattle.regular_check.specs.Rules.{disk_rules}
use Rattle.regular_check.specs.Tally.{IsBlank}
use Rattle.regular_check.proofs.Faults.{AreKept}
use Rattle.regular_check.proofs.rules.check_disks.Given as goal

abbrev pub invariant-loop-index : goal.invariant-loop-index
invariant-loop-index l = (l.found.most ≡ l.fn.found.most) × IsBlank l.tallies × AreKept (disk_rules l.space) l.index
