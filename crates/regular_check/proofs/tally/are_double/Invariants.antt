use Rattle.std.proofs.Common.{◌≡◌, true, take}
use Rattle.regular_check.specs.Tally.{all_double}
use Rattle.regular_check.proofs.tally.are_double.Given as goal

abbrev pub invariant-loop-facet : goal.invariant-loop-facet
invariant-loop-facet l = all_double l.tallies (take l.facet-index l.facets) ≡ true
