use Rattle.std.proofs.Common.{take}
use Rattle.regular_check.specs.Tally.{none, with_cell}
use Rattle.number_lists.proofs.CallerLemmas.{IsTouched}
use Rattle.regular_check.proofs.tally.add_cell.Given as goal

abbrev pub invariant-loop-facet : goal.invariant-loop-facet
invariant-loop-facet l = IsTouched none (with_cell l.cell) (take l.facet-index l.facets) l.fn.tallies l.tallies
