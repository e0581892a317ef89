use Rattle.std.proofs.Common.{◌≡◌, take}
use Rattle.pair_stages.specs.Stages.{critical_from}
use Rattle.pair_stages.proofs.listing.list_critical.Given as goal

abbrev pub invariant-loop-index : goal.invariant-loop-index
invariant-loop-index l = l.critical.items ≡ critical_from 1 (take l.index l.kinds)
