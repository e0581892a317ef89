use Rattle.std.proofs.Common.{◌≡◌}
use Rattle.facet_reader.specs.Chains.{pairs_of, first_above}
use Rattle.facet_reader.proofs.above.list_above.Given as goal

abbrev pub invariant-loop-index : goal.invariant-loop-index
invariant-loop-index l = l.above ≡ first_above l.points (pairs_of l.pairs) l.index
