use Rattle.std.proofs.Common.{take}
use Rattle.regular_check.specs.Tally.{none}
use Rattle.number_lists.proofs.CallerLemmas.{IsTouched}
use Rattle.regular_check.proofs.tally.clear_facets.Given as goal

abbrev pub invariant-loop-facet : goal.invariant-loop-facet
invariant-loop-facet l = IsTouched none (λ _. none) (take l.facet-index l.facets) l.fn.tallies l.tallies
